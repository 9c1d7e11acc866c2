-- Which clause rests on which file. `serve_lsp`: served and seat on Served, with Named where the session begins and
-- Turned for each message; Later serves Served. `answer_message`: what comes of a document that is opened, changed
-- or closed, on Put, and of the commit that it makes, on Committed. The law on OneScript, which Apart serves.
-- CallerLemmas is for `nav_serve`.
mod Committed
mod Put
mod Later
mod Named
mod Served
mod Turned
pub mod CallerLemmas
mod Apart
mod OneScript
