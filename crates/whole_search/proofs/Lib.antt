-- Which clause rests on which file. `search`: rows on PathEnds and InOrder; limit on MetCounted and Rising; crowded
-- and not_crowded on MetCounted. That the runs which the search meets tell of all runs: MetRuns, MetComplete and
-- Reached, which Outs, Prefixes and Reflect serve.
-- That the code finds what these runs tell: UnderWay, with Ahead and Serving, for its loop; Following and Leaving
-- for one edge more; Marks and Landing for the spots from which a run can land, Nowhere for what is kept as dead
-- ends. InOrder and Prefixes are also for `nav_answers`.
pub mod MetComplete
pub mod MetCounted
pub mod MetRuns
pub mod Outs
pub mod Prefixes
pub mod Reached
pub mod Reflect
pub mod Rising
pub mod Following
pub mod Leaving
pub mod Ahead
pub mod UnderWay
pub mod InOrder
pub mod PathEnds
pub mod Serving
pub mod Marks
pub mod Landing
pub mod Nowhere
