-- Which clause rests on which file. `RootIndex::afresh` on Gathered, RootRuns and KeyOrders; `amended` on WithFile and
-- WithoutFile, which Amended, Ranked and Seen serve; `look` and `next_path` on Looked; `offers` on Seen;
-- `next_offer` on Meeting and PassedOver, and on Seen for a file's number. `rows_have_one_index` on Unique.
-- How paths stand in blocks, and blocks in groups: InBlocks, Sized and Starts find the place of a path, Placed and
-- Grouped put one in or take one out. KeyOrders serves most of these. HeadOrders is for `key_heads`. WithFile is also
-- for `version_board`, Seen for `nav_answers`.
mod Amended
mod Gathered
mod Grouped
mod HeadOrders
mod InBlocks
mod KeyOrders
mod Looked
mod Meeting
mod PassedOver
mod Placed
mod Ranked
mod RootRuns
pub mod Seen
mod Sized
mod Starts
mod Unique
pub mod WithFile
mod WithoutFile
