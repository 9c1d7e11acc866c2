-- Which clause rests on which file. `EndIndex::fit` on Dealt and Fitted and, for the order, on Ordered; `EndSource::ends` on
-- Given, which Ending, Places and Marked serve; `EndSource::next_end` on Ordered and Among; `EndSource::path_to` on Listed.
-- Among is also for `nav_answers`.
mod Ordered
mod Marked
mod Places
mod Ending
mod Given
pub mod Among
mod Listed
mod Filtered
mod Fitted
mod Dealt
