-- Which clause rests on which file. `Grants::add` and `deny`: ok on Found, and that a set stays in order too.
-- `remove` and `undeny`: answer and ok on Found. `covers` on Longest, which Reach and Members serve.
-- `a_pair_comes_and_goes`: comes and goes on Gained, which Members serves. Order serves all of these but Reach: the
-- order of pairs is total.
pub mod Order
pub mod Found
pub mod Reach
pub mod Members
pub mod Longest
pub mod Gained
