use Rattle.std.proofs.Common.{◌≡◌, ◌++◌}
use Rattle.partial_path.proofs.Pooling.{AreKept}
use Rattle.partial_path.proofs.stored_paths.KeptPaths.of.Given as goal

-- the rows so far are those of the paths that came, and behind these stand the others
abbrev pub invariant-loop-path : goal.invariant-loop-path
invariant-loop-path l = AreKept l.pools l.rows.items l.yielded × (l.yielded ++ l.path-iterator.rest.items ≡ l.fn.paths.items)
