use Rattle.std.proofs.Common.{◌≡◌, take}
use Rattle.version_tree.proofs.sorted_rows.SortedRows.share.Given as goal

abbrev pub invariant-loop-row : goal.invariant-loop-row
invariant-loop-row l = l.rows.items ≡ take l.row-index l.row-items
