use Rattle.std.proofs.Common.{◌≡◌, ◌+◌, drop, false}
use Rattle.std.specs.Prelude.{option_map}
use Rattle.py_subset.specs.Pieces as spec
use Rattle.py_subset.proofs.bytes.closing.Given as goal

abbrev pub invariant-loop-i : goal.invariant-loop-i
invariant-loop-i l = option_map (λ n. l.i + n) (spec.closing l.quote l.taken (drop l.i l.text)) ≡ spec.closing l.quote false l.text
