-- Which clause rests on which file. `answer_line` and `reply_to`: reply on Asked (who may ask), Seen (`hello` and
-- `pin`), Judged (changes) and Committed (commits). That a swept desk still has its documents in order, on Kept.
-- `serve_session`: served and seat on Keeping, which says what is left of the store beside what UnderWay says, with
-- Turned where no line was answered; Seen, Longer, Passed and Reached serve UnderWay.
-- `queries_are_answered_at_the_pin`: session on AskedAtPin. The other laws on OneScript, which Plain and Alike serve.
-- CallerLemmas and Chains are for `nav_demo`, `nav_lsp` and `nav_serve`, and OneScript and Plain are for their laws too. UnderWay,
-- Reached and Turned are also for `nav_poll`, whose session has the same lines over a link.
pub mod Chains
mod Kept
mod Seen
mod Judged
mod Asked
mod AskedAtPin
mod Committed
pub mod Plain
mod Alike
pub mod OneScript
mod Longer
mod Passed
pub mod Reached
pub mod Turned
pub mod UnderWay
mod Keeping
pub mod CallerLemmas
