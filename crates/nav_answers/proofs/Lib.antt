-- Which clause rests on which file; each query has one clause. `define`: on Told, which puts the reply together, on
-- Exact and Kept, which have its definitions and where their runs end. `references`: on Referred, which puts the
-- reply together, on Asked, which has all references in order, Shared, what several threads tell of them, and Alike,
-- what is found of one that begins like another.
-- `references_of_any`: on United too, which Referred serves.
-- `callers`: on Called, which has what leads to a definition and what was found of that.
-- All of these: on Own, what the files of a view offer to a search, on Numbers, which number a file has, and on
-- Spanned, which node is meant; `definition_at` on the last two. The laws on OneReply and Alike. Numbers is
-- also for `lsp_answers`.
pub mod Numbers
pub mod Spanned
pub mod Own
pub mod Kept
pub mod Alone
pub mod Exact
pub mod OneReply
pub mod Told
pub mod Asked
pub mod Linked
pub mod Referred
pub mod Called
pub mod United
pub mod Shared
pub mod Alike
