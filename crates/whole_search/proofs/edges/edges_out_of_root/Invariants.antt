use Rattle.std.proofs.Common.{◌≡◌, ◌++◌, drop}
use Rattle.whole_search.specs.Walk.{out_of_root}
use Rattle.whole_search.proofs.edges.edges_out_of_root.Given as goal

abbrev pub invariant-loop-file : goal.invariant-loop-file
invariant-loop-file l = l.edges.items ++ out_of_root l.file (drop l.file l.files) ≡ out_of_root 0 l.files
