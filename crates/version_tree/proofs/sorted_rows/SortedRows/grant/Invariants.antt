use Rattle.std.proofs.Common.{◌≡◌, ◌++◌, take}
use Rattle.version_tree.specs.Contents.{covered}
use Rattle.version_tree.proofs.sorted_rows.SortedRows.grant.Given as goal

abbrev pub invariant-loop-row : goal.invariant-loop-row
invariant-loop-row l = l.kept.items ≡ l.initial.kept.items ++ covered l.grants l.user (take l.row-index l.row-items)
