-- Which clause rests on which file. `members_are_contained` on Members; `apart_lists_join` and
-- `apart_lists_change_places` on Apart; `apart_lists_are_short` and `apart_sums_are_low` on Sums; `halving_finds`
-- on Halving; `parts_tell` on Sets.
-- Each, Pairs, Tests and Orders serve these. They and SetPlaces, on which no clause here rests, are for the layers
-- above, which cite all of these files.
pub mod Each
pub mod Members
pub mod Pairs
pub mod Apart
pub mod Sums
pub mod Tests
pub mod Orders
pub mod Halving
pub mod Sets
pub mod SetPlaces
