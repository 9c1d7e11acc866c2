-- Which clause rests on which file. `PartialPath::check` on Firsts; `moved` on MovedRules and FileNumberLaws;
-- `meets` on Lefts and Asked, `apply` and `apply_met` on Leaving. `FilePaths::new`: order and keys on Pieces
-- and KeyOrders, its sets on Reordered; `paths_from` on Tabled and Halved, `paths_asking` on Halved; `next_offer` on
-- Offered, which Tabled, HeadOrders, Kept, KeyOrders and Standing serve. `FileList` on Asking and Listing; `is_cut_edge` on
-- Edges. HeadOrders is also for `root_index`, Standing for `root_index` and `end_index`.
-- The laws: of one file, Prefixes, Cycles, Edgeless; of moved paths, SwappedRuns, FileNumberLaws; of offers,
-- Applied, OfferedStored, Listing; of cut runs, CutRuns, Joints, OnlyCuts, HighJoints, CutJoints, Returned. RunsOn,
-- Swaps, SwappedRules, Followed, MovedWalks and Exported serve these. Positions is for layers above, Equals and
-- others also.
pub mod Edges
pub mod Positions
pub mod Equals
pub mod RunsOn
pub mod Prefixes
pub mod Cycles
pub mod Firsts
pub mod Lefts
pub mod Leaving
pub mod Asked
pub mod Orders
pub mod Reordered
pub mod Halved
pub mod KeyOrders
pub mod Pieces
pub mod Asking
pub mod Standing
pub mod Kept
pub mod Tabled
pub mod HeadOrders
pub mod Offered
pub mod Listing
pub mod Edgeless
pub mod Swaps
pub mod SwappedRules
pub mod SwappedRuns
pub mod Applied
pub mod FileNumberLaws
pub mod MovedRules
pub mod Followed
pub mod Joints
pub mod MovedWalks
pub mod OnlyCuts
pub mod Exported
pub mod CutRuns
pub mod HighJoints
pub mod CutJoints
pub mod Returned
pub mod OfferedStored
mod Marked
mod Pooling
mod Points
