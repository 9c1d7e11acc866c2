-- Which clause rests on which file. `index_all`: files, indexed, added, steps, fewer and some on UnderWay and
-- Places, fault on Places; what one document adds, on Adding. Held and Missing serve
-- these.
-- `read_document` on Faults, as far as graph files go. The laws: `added_documents_are_held` and
-- `a_document_has_one_fault` on Once, which is also for `nav_session`; `a_document_has_one_graph` on Graphs.
pub mod Held
pub mod Missing
pub mod UnderWay
pub mod Once
pub mod Faults
pub mod Adding
pub mod Places
pub mod Graphs
