use Rattle.std.proofs.Common.{◌≡◌, map, drop, None}
use Rattle.py_graph.specs.Modules as row
use Rattle.py_graph.specs.Inside.{Grows, IsNodeIf}
use Rattle.py_graph.proofs.head.name_nodes.Given as goal

abbrev pub invariant-loop-i : goal.invariant-loop-i
invariant-loop-i l = (row.path l.before (map (λ x. x.now) (drop l.i l.parts)) l.s l.draft ≡ row.path None (map (λ x. x.now) l.parts) l.s l.fn.draft) × Grows l.fn.draft l.draft × IsNodeIf l.draft l.before
