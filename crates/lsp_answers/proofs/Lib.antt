-- Which clause rests on which file. `tell_definitions` on Asked. `tell_references` on Targets (what is asked
-- about), Asked (what is told then) and Referred (the rows of all targets, each once). `path_under` on Modules.
-- The law on OneOutcome, which OneColumn and OneRow serve.
mod Asked
mod Referred
mod Targets
mod Modules
mod OneColumn
mod OneRow
pub mod OneOutcome
