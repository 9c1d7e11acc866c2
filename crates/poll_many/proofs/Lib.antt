-- Which clause rests on which file. `serve_many`, from its steps to the whole: on PlaceSteps, PlaceTurns, Settled, Finished and Seated,
-- which PlaceLists and PortServed serve; `run_many` on Yarded.
mod Finished
mod PlaceLists
mod PlaceSteps
mod PlaceTurns
mod PortServed
mod Seated
mod Settled
mod WordLists
mod Yarded
