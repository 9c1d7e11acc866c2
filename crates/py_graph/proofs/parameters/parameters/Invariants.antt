use Rattle.std.proofs.Common.{◌≡◌, drop}
use Rattle.py_graph.specs.Functions as row
use Rattle.py_graph.specs.Inside.{Grows}
use Rattle.py_graph.proofs.parameters.parameters.Given as goal

abbrev pub invariant-loop-j : goal.invariant-loop-j
invariant-loop-j l = (row.parameters l.s l.j (drop l.j l.xs) l.draft ≡ row.parameters l.s 0 l.xs l.fn.draft) × Grows l.fn.draft l.draft
