-- Which clause rests on which file. `FrameReader::next_frame`: frame, short, broken, too_long and rest on Ahead,
-- from what the search of the front tells: Finding says where the body is, or why there is none, Cuts how the front
-- of an input that goes on is cut, Least where its block ends, Lines and Numbers which length that states.
-- `frames_stay` on Cuts, which is also for `lsp_messages`.
pub mod Least
pub mod Numbers
pub mod Lines
pub mod Cuts
pub mod Ahead
pub mod Finding
