-- Which clause rests on which file. `messages_stand_in_turn` on Behind. `write_reply`: err on Written, where
-- nothing was written. No clause here rests on UnderWay, nor on Reached, which serves it: UnderWay is for
-- `nav_lsp`, whose session reads, answers and writes in turn.
pub mod Behind
pub mod Reached
pub mod UnderWay
pub mod Written
