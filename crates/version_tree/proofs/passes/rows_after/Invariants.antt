use Rattle.std.proofs.Common.{◌≡◌, drop}
use Rattle.version_tree.specs.Passes.{rowed_all}
use Rattle.version_tree.proofs.passes.rows_after.Given as goal

abbrev pub invariant-loop-edit : goal.invariant-loop-edit
invariant-loop-edit l = rowed_all l.edits l.fn.rows ≡ rowed_all (drop l.edit-index l.edits) l.after
