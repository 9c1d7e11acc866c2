use Rattle.std.proofs.Common.{◌≡◌, take}
use Rattle.version_tree.proofs.entry.EditList.copy.Given as goal

abbrev pub invariant-loop-edit : goal.invariant-loop-edit
invariant-loop-edit l = l.items.items ≡ take l.edit-index l.edits
