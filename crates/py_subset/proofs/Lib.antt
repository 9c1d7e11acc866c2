-- Which clause rests on which file. Functions of tokens: `lex::tokens` on Pieces, Cut and Prefix; those with loops over
-- tokens on Turns; `mark::same` on MarkNumbers. Of `parse`: `derived` on Sound and SoundGrammar; `complete` on Complete
-- and CompleteGrammar; `dotted` on DottedLemmas and DottedGrammar; `first` on Near, Viable, ViableLists, Ready,
-- ReadyGrammar and FirstFault; `tokens` on FirstFault. Correct puts them together for `parse`, and has that of
-- `one_module`; Texts has `read`, and the laws `texts_are_read_once` and `lookahead_reads_texts`. Steps serves Turns and
-- all that speak of readers.
pub mod Prefix
pub mod Pieces
pub mod Cut
pub mod Turns
pub mod MarkNumbers
pub mod Steps
pub mod Sound
pub mod SoundGrammar
pub mod DottedLemmas
pub mod DottedGrammar
pub mod Correct
pub mod Complete
pub mod CompleteGrammar
pub mod Near
pub mod Viable
pub mod ViableLists
pub mod Ready
pub mod ReadyGrammar
pub mod FirstFault
pub mod Texts
