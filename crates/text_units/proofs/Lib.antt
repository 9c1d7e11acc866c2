-- Which clause rests on which file. `LineStarts::to_bytes` and `to_units` on Counting; `line`: some and none on
-- Starts. The law `units_are_those_of_utf16` on Utf16.
mod Counting
mod Starts
mod Utf16
