use Rattle.std.proofs.Common.{◌≡◌, take}
use Rattle.whole_search.specs.Answers.{path_of}
use Rattle.nav_answers.specs.Sources.{graphs_seen}
use Rattle.nav_answers.proofs.rows.path_of.Given as goal

abbrev pub invariant-loop-edge : goal.invariant-loop-edge
invariant-loop-edge l = l.steps.items ≡ path_of (graphs_seen l.view) (take l.edge-index l.edges)
