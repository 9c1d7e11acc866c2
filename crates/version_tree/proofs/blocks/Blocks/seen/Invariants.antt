use Rattle.std.proofs.Common.{◌≡◌, take, length}
use Rattle.std.specs.List.{AllByRecursion}
use Rattle.version_tree.specs.Contents.{covered}
use Rattle.version_tree.specs.Blocks.{IsBlock, all_rows}
use Rattle.version_tree.proofs.blocks.Blocks.seen.Given as goal

abbrev pub invariant-loop-block : goal.invariant-loop-block
invariant-loop-block l =
    (all_rows l.blocks.items ≡ covered l.grants l.user (all_rows (take l.block-index l.block-items)))
    × AllByRecursion IsBlock l.blocks.items × (l.count ≡ length (all_rows l.blocks.items))
