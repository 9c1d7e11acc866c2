use Rattle.std.proofs.Common.{◌≡◌, drop}
use Rattle.partial_path.specs.Keys.{asked_texts}
use Rattle.end_index.specs.Runs.{runs_behind}
use Rattle.end_index.proofs.runs.next_run.Given as goal

-- what is left makes more than so many of the symbols asked for
abbrev pub invariant-loop-asked : goal.invariant-loop-asked
invariant-loop-asked l =
    runs_behind l.fn.at.mark l.fn.at.asked (drop l.fn.at.asked (asked_texts l.symbols)) l.places ≡ runs_behind l.mark l.asked (drop l.asked (asked_texts l.symbols)) l.places
