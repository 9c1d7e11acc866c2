use Rattle.std.proofs.Common.{◌≡◌, take}
use Rattle.version_tree.specs.Contents.{covered}
use Rattle.version_tree.proofs.sorted_rows.SortedRows.are_covered.Given as goal

abbrev pub invariant-loop-row : goal.invariant-loop-row
invariant-loop-row l = covered l.grants l.user (take l.row-index l.row-items) ≡ take l.row-index l.row-items
