use Rattle.std.proofs.Common.{◌++◌, take}
use Rattle.std.specs.List.Sorted.{IsPermutation}
use Rattle.root_index.specs.Roots.{all_roots}
use Rattle.root_index.specs.Amended.{touched_rows}
use Rattle.root_index.proofs.with_files.add_edited.Given as goal

-- the paths of the rows that an earlier edit touches are added
abbrev pub invariant-loop-i : goal.invariant-loop-i
invariant-loop-i l = IsPermutation (all_roots (touched_rows (take l.i l.edits) l.new.content.rows) ++ l.initial.slots.items) l.slots.items
