use Rattle.std.proofs.Common.{◌≡◌, map, take}
use Rattle.version_tree.specs.Graphs.{graph_rows}
use Rattle.nav_answers.specs.Replies.{row_of}
use Rattle.nav_answers.proofs.defining.rows_told.Given as goal

abbrev pub invariant-loop-hit : goal.invariant-loop-hit
invariant-loop-hit l = l.rows.items ≡ map (row_of (graph_rows l.view)) (take l.hit-index l.hits)
