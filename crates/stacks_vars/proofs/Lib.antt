-- Which clause rests on which file. `same` of SymbolItem and of stacks: exact on SameLaws, and eq of
-- stacks. SameLaws is also for `partial_path`, `path_join` and `stitcher`. `order` and `same` of Symbol on
-- HeadLaws.
pub mod Turned
pub mod SameLaws
pub mod HeadLaws
pub mod BytesLaws
