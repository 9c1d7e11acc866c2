-- Which clause rests on which file. `serve_door`: served on UnderWay. `serve_counted` and `serve_doors`: served on Placed.
-- `serve_house`: served on Housed, which is also for `nav_serve`. `connections_lie_on_one_log` on Logs.
pub mod Housed
mod UnderWay
mod Placed
mod Logs
