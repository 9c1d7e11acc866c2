use Rattle.std.proofs.Common.{◌≡◌, drop}
use Rattle.version_tree.specs.Verdict.{absent}
use Rattle.version_tree.proofs.checks.no_absent_path.Given as goal

abbrev pub invariant-loop-edit : goal.invariant-loop-edit
invariant-loop-edit l = absent l.rows l.edits ≡ absent l.rows (drop l.edit-index l.edits)
