use Rattle.std.proofs.Common.{◌≡◌, map, drop}
use Rattle.py_graph.specs.Classes as classes
use Rattle.py_graph.specs.Expressions as visit
use Rattle.py_graph.specs.Inside.{Grows}
use Rattle.py_graph.proofs.statements.bases.Given as goal

abbrev pub invariant-loop-e : goal.invariant-loop-e
invariant-loop-e l = (classes.bases l.members (map visit.expr (drop l.e-index l.es)) l.l l.draft ≡ classes.bases l.members (map visit.expr l.es) l.l l.fn.draft) × Grows l.fn.draft l.draft
