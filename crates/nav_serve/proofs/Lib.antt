-- Which clause rests on which file. `run`: what is kept on CallerLemmas, where memory for the words is refused and where a
-- command was carried out; what `serve` asks of a house, on Spelled. `perform`, `command_or_status` and `graph_line`: on Told. `serve` of `perform`: on Writing, from the text: of `once` on
-- Replies (with Found for the rows), of `upgrade` on Upgraded. FirstLine serves both, BothLines Replies.
-- `command_of` on CommandLine, with Hyphens and, for the parser, Builders. `run_alone`: on NoBoard, wherever no board is
-- made, and on Given where one is, which OneOutput serves; so does the law of outputs.
pub mod FirstLine
pub mod BothLines
pub mod Replies
pub mod Writing
pub mod Upgraded
pub mod Found
pub mod CallerLemmas
mod NoBoard
mod Told
mod OneOutput
mod Given
mod Spelled
mod Hyphens
mod CommandLine
mod Builders
