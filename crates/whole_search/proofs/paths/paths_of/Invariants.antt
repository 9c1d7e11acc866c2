use Rattle.std.proofs.Common.{◌≡◌, map, take}
use Rattle.whole_search.specs.Answers.{path_of}
use Rattle.whole_search.proofs.paths.paths_of.Given as goal

abbrev pub invariant-loop-run : goal.invariant-loop-run
invariant-loop-run l = l.paths.items ≡ map (path_of l.files) (take l.run-index l.runs)
