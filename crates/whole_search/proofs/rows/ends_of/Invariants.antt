use Rattle.std.proofs.Common.{◌≡◌, take}
use Rattle.whole_search.specs.Ends.{path_ends}
use Rattle.whole_search.proofs.rows.ends_of.Given as goal

abbrev pub invariant-loop-path : goal.invariant-loop-path
invariant-loop-path l = l.ends.items ≡ path_ends l.files l.start (take l.path-index l.paths)
