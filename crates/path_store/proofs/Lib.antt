-- Which clause rests on which file. `is_same` on Same; `PathStore::find` on Found and Filed; `keep`: that the
-- store's parts agree with one pair more, on Pushed, and what a refusal leaves, on Kept; `sweep` on Sweeps; `append`
-- on Appended. The laws `what_is_kept_is_found` and `a_sweep_leaves_the_newest` on Members. Filed, Sweeps and Apart
-- serve Pushed, Same and Apart also Members, which `index_gate` cites too.
pub mod Kept
pub mod Same
pub mod Found
pub mod Filed
pub mod Sweeps
pub mod Apart
pub mod Pushed
pub mod Members
mod Appended
