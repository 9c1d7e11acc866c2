-- Which clause rests on which file. `demo`: demonstrates on Shown (what was written, and the status), on Asked (the
-- session, and the totals of its replies) and on Drawn (the files that the session commits). The law on OneSummary. Shown is also for
-- `nav_serve`.
pub mod Drawn
pub mod Asked
pub mod Shown
mod OneSummary
