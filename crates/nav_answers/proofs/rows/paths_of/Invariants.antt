use Rattle.std.proofs.Common.{◌≡◌, take}
use Rattle.nav_answers.specs.Kept.{run_paths}
use Rattle.nav_answers.specs.Sources.{graphs_seen}
use Rattle.nav_answers.proofs.rows.paths_of.Given as goal

abbrev pub invariant-loop-run : goal.invariant-loop-run
invariant-loop-run l = l.paths.items ≡ run_paths (graphs_seen l.view) (take l.run-index l.runs)
