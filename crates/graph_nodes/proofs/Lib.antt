-- Which clause rests on which file. `FileGraph::check`: that its rows are those of the lists rests on Rows, that its
-- kinds and spans are the nodes again on Split, that its marks tell of them on Marking, and that each edge has its ends
-- there and fits its row on Faults; `edges_from` and `is_cut` read the rows and marks, `span` rests on Split. Faults is
-- also for `partial_path`, `path_join` and `whole_search`.
pub mod Rows
pub mod Faults
pub mod Split
pub mod Marking
