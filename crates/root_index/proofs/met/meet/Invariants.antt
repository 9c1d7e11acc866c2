use Rattle.std.proofs.Common.{◌≡◌, ◌≤◌, length, take}
use Rattle.partial_path.specs.Keys.{texts}
use Rattle.root_index.specs.Roots.{root_key}
use Rattle.root_index.proofs.met.meet.Given as goal

-- the texts before this one are the same
abbrev pub invariant-loop-i : goal.invariant-loop-i
invariant-loop-i l = record { same : take l.i (root_key l.slot) ≡ take l.i (texts l.symbols); long : l.i ≤ length (root_key l.slot) }
