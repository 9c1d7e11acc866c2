use Rattle.std.proofs.Common.{◌≡◌, map, drop}
use Rattle.py_graph.specs.Steps.{each, ◌▸?◌}
use Rattle.py_graph.specs.Imports as row
use Rattle.py_graph.specs.Inside.{Grows}
use Rattle.py_graph.proofs.imports.link_all.Given as goal

abbrev pub invariant-loop-t : goal.invariant-loop-t
invariant-loop-t l = (each (map (λ t. t ▸? row.first_node l.d) (drop l.t-index l.ts)) l.draft ≡ each (map (λ t. t ▸? row.first_node l.d) l.ts) l.fn.draft) × Grows l.fn.draft l.draft
