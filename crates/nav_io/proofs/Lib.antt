-- Which clause rests on which file. `write_all`: ok and err on Written. `LineReader::next_line`: line, cut, short,
-- no_newline, too_long and rest on CutLaws and ReadingLaws; `next_bytes`: bytes, exact and rest on ReadingLaws and
-- FrontLaws; `whole_line`: line, cut, no_newline, ended_by and rest on CutLaws and FrontLaws. What the search for a
-- newline keeps, also as `push` adds bytes, is in Cuts, which serves them. `TcpDoor` and `TcpHouse`: what is said of what
-- they tell rests on Untold.
-- CallerLemmas is for `nav_session` alone; Written, Cuts, CutLaws, ReadingLaws and FrontLaws are also for layers
-- above.
pub mod Written
pub mod Cuts
pub mod CutLaws
pub mod ReadingLaws
pub mod CallerLemmas
pub mod FrontLaws
mod Untold
