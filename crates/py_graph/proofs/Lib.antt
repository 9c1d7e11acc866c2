-- Which clause rests on which file. `Draft`: its invariant, and what `node`, `join` and `finish` owe it, on Sound. The
-- condition `IsInside` of each row's function, on Sound (the context stays inside a graph that grows). `gives` of
-- `expressions::expr` on Visits. `names` and `head`, and `translate` at a path without `.py`, on Parts.
pub mod Sound
pub mod Visits
pub mod Parts
