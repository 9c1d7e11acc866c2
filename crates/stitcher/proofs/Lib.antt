-- Which clause rests on which file. `stitch`: complete, limit, crowded and not_crowded on Going, which has what the
-- loop over open runs keeps. Of what is found once none is left, Ending and Telling have the meaning, UnderWay that
-- what is still ahead is counted in, Reached that no run is missed. Meeting, Leading, Straight, Offered and Same
-- serve these. `joined_paths_tell` on Telling.
-- What one path more does: Opening and Tried for all that are offered, Joining (it is joined where it should be),
-- Within and Heights (the bounds), Pruned (a path of which nothing comes), Plain (an offered path is met where there
-- are no scopes), Noting (the tally), Landed (where the trail has been).
pub mod Ending
pub mod Going
pub mod Heights
pub mod Joining
pub mod Landed
pub mod Leading
pub mod Meeting
pub mod Noting
pub mod Offered
pub mod Opening
pub mod Plain
pub mod Pruned
pub mod Reached
pub mod Same
pub mod Straight
pub mod Telling
pub mod Tried
pub mod UnderWay
pub mod Within
