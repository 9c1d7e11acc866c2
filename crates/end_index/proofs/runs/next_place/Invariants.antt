use Rattle.std.proofs.Common.{◌≡◌, ◌-◌, length}
use Rattle.partial_path.specs.Keys.{asked_texts}
use Rattle.end_index.specs.Runs.{shares_left}
use Rattle.end_index.proofs.runs.next_place.Given as goal

-- what is left is what was left at first
abbrev pub invariant-loop-at : goal.invariant-loop-at
invariant-loop-at l = shares_left (asked_texts l.symbols) l.fn.at l.shares ≡ shares_left (asked_texts l.symbols) l.at l.shares

abbrev pub decreases-loop-at : goal.decreases-loop-at
decreases-loop-at l = length l.shares - l.at.share
