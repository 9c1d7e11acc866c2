use Rattle.std.proofs.Common.{◌≡◌, drop, slice_get}
use Rattle.version_tree.specs.Blocks.{all_rows}
use Rattle.version_tree.proofs.blocks.Blocks.row.Given as goal

abbrev pub invariant-loop-block : goal.invariant-loop-block
invariant-loop-block l = slice_get (all_rows l.self) l.place ≡ slice_get (all_rows (drop l.block-index l.block-items)) l.left
