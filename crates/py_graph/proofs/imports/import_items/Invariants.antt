use Rattle.std.proofs.Common.{◌≡◌, map, drop}
use Rattle.py_graph.specs.Blocks.{suite}
use Rattle.py_graph.specs.Imports as row
use Rattle.py_graph.specs.Inside.{Grows}
use Rattle.py_graph.proofs.imports.import_items.Given as goal

abbrev pub invariant-loop-i : goal.invariant-loop-i
invariant-loop-i l = (suite (map row.import_item (drop l.i-index l.items)) l.c l.draft ≡ suite (map row.import_item l.items) l.c l.fn.draft) × Grows l.fn.draft l.draft
