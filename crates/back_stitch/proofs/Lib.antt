-- Which clause rests on which file. `rounds_can_be_cut` on Rounds and Reached; `landing_runs_are_cut`,
-- `leading_paths_are_runs` and `exported_scopes_stay` on CutFrom; `cuts_from_are_unique` on OnlyCut;
-- `moved_by_nothing_stays` on MovedNone.
mod Rounds
mod Reached
mod CutFrom
mod OnlyCut
mod MovedNone
mod Matched
mod Applied
mod Stood
mod Searched
mod Longer
mod Agreed
mod Listed
mod Going
mod InOrder
mod LookUps
