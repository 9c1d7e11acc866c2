use Rattle.std.proofs.Common.{◌≡◌, drop}
use Rattle.partial_path.specs.Runs.{run}
use Rattle.whole_search.specs.Ends.{edges_of}
use Rattle.whole_search.proofs.rows.end_of.Given as goal

abbrev pub invariant-loop-taken : goal.invariant-loop-taken
invariant-loop-taken l = run l.files l.here (edges_of (drop l.taken-index l.path)) ≡ run l.files l.fn.start (edges_of l.path)
