use Rattle.std.proofs.Common.{◌≡◌, take}
use Rattle.root_index.specs.Amended.{other_paths}
use Rattle.root_index.specs.Blocks.{all_paths}
use Rattle.root_index.proofs.without_files.without_edited.Given as goal

-- the paths of the files that an earlier edit touches are out
abbrev pub invariant-loop-edit : goal.invariant-loop-edit
invariant-loop-edit l = all_paths l.rest ≡ other_paths (take l.edit-index l.edits) (all_paths l.fn.groups)
