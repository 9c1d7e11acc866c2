use Rattle.std.proofs.Common.{◌≡◌, map, take}
use Rattle.nav_serve.specs.Once.{row_of}
use Rattle.nav_serve.proofs.found_rows.answer_of.Given as goal

abbrev pub invariant-loop-hit : goal.invariant-loop-hit
invariant-loop-hit l = l.rows.items ≡ map (row_of l.graph) (take l.hit-index l.hit-items)
