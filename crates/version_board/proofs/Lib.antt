-- Which clause rests on which file. `PlainBoard::pinned`: index on Ranked. `commit`: ok on Replayed, what a log
-- makes with one entry more, and the index of the version that it makes, on Ranked. `seats_keep_their_entries` on
-- Machines.
mod Ranked
mod Replayed
mod Machines
