-- Which clause rests on which file. `read_request`: ok and err on Whole (what the line's value is), on Named (members,
-- one by one), on Collecting (a commit's edits) and, for err, on Causes. `read_node`: ok and err on Named, and err on
-- Causes. `print_reply`: one_line on OneLine, which Clean serves.
mod Clean
pub mod OneLine
pub mod Named
mod Whole
pub mod Collecting
pub mod Causes
