-- Which clause rests on which file. `Version::amend`: fit, content and refused on Amend, from its passes: a path
-- named twice on Twice and Least, rules on Rules. `Version::paths_at` and `View::find` on Found; `Version::view` on
-- Parts. The laws `logs_make_graphs` and `users_see_graphs` on GraphRows.
-- The rows of a version: in one list on Found, Parts and Weights; in blocks on Joined and ByBlock, which these
-- serve. `Version::view` and a view's rows on Placed. Order serves most of them. Joined is also for `root_index`.
pub mod Order
pub mod Parts
pub mod Found
pub mod Weights
pub mod Rules
pub mod Amend
pub mod Least
pub mod Twice
pub mod Joined
pub mod ByBlock
pub mod Placed
pub mod GraphRows
