use Rattle.std.proofs.Common.{◌≡◌, reverse, ◌-◌, length, take}
use Rattle.py_graph.specs.Imports as row
use Rattle.py_graph.specs.Inside.{Grows, IsNode}
use Rattle.py_graph.proofs.imports.behind.Given as goal

abbrev pub invariant-loop-i : goal.invariant-loop-i
invariant-loop-i l = (row.behind l.last (reverse (take (length l.xs - l.i) l.xs)) l.draft ≡ row.behind l.n (reverse l.xs) l.fn.draft) × Grows l.fn.draft l.draft × IsNode l.draft l.last
