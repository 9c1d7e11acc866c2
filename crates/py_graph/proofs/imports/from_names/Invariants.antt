use Rattle.std.proofs.Common.{◌≡◌, ◌++◌, map, drop}
use Rattle.py_graph.specs.Steps.{collect, go_on, value}
use Rattle.py_graph.specs.Imports as row
use Rattle.py_graph.specs.Inside.{Grows, IsNode}
use Rattle.std.specs.List.{All}
use Rattle.py_graph.proofs.imports.from_names.Given as goal

abbrev pub invariant-loop-i : goal.invariant-loop-i
invariant-loop-i l = (go_on (λ ts. value (l.ts.items ++ ts)) (collect (map (row.from_item l.c) (drop l.i-index l.items)) l.draft)
    ≡ collect (map (row.from_item l.c) l.items) l.fn.draft) × Grows l.fn.draft l.draft × All (IsNode l.draft) l.ts.items
