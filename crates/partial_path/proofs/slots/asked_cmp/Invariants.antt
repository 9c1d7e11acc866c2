use Rattle.std.proofs.Common.{◌≡◌, drop}
use Rattle.partial_path.specs.Keys.{key_cmp}
use Rattle.partial_path.specs.Inside.{asked_key}
use Rattle.partial_path.proofs.slots.asked_cmp.Given as goal

-- the texts left decide
abbrev pub invariant-loop-i : goal.invariant-loop-i
invariant-loop-i l = key_cmp (asked_key l.a) (asked_key l.b) ≡ key_cmp (drop l.i (asked_key l.a)) (drop l.i (asked_key l.b))
