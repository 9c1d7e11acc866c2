use Rattle.std.proofs.Common.{◌≡◌, ◌+◌, drop}
use Rattle.py_subset.specs.Pieces as spec
use Rattle.py_subset.proofs.bytes.digits_len.Given as goal

abbrev pub invariant-loop-i : goal.invariant-loop-i
invariant-loop-i l = l.i + spec.run spec.is_digit (drop l.i l.text) ≡ spec.run spec.is_digit l.text
