-- Which clause rests on which file. `SeatOf::pin`: later on Fronts and Counted. `commit`: later on these, ok on
-- Settled, Grown and Adding (the exchange that appends an entry). What seats find, which `Desk` keeps, on Nearly.
-- `tell` and `learn` on Fronts. `tie`: learnt and tied on Passed, which Fronts and Counted serve. `SharedBoard::named`
-- on Newcomers.
mod Fronts
mod Adding
mod Counted
mod Grown
mod Settled
mod Nearly
mod Passed
mod Newcomers
