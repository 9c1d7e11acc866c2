use Rattle.std.proofs.Common.{◌≡◌, ◌+◌, drop, leb}
use Rattle.std.specs.List.{prefix_len}
use Rattle.py_subset.proofs.layout.kept.Given as goal

abbrev pub invariant-loop-i : goal.invariant-loop-i
invariant-loop-i l = l.i + prefix_len (λ b. leb b l.column) (drop l.i l.blocks) ≡ prefix_len (λ b. leb b l.column) l.blocks
