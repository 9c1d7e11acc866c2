use Rattle.std.proofs.Common.{◌≡◌, ◌++◌, length, reverse}
use Rattle.std.specs.Prelude.{All}
use Rattle.root_index.specs.Blocks.{IsBlock, all_paths}
use Rattle.root_index.proofs.blocks.in_blocks.Given as goal

-- the blocks made are the last ones, the last of them first
abbrev pub invariant-loop-slots : goal.invariant-loop-slots
invariant-loop-slots l = record {
  paths : l.slots.items ++ all_paths (reverse l.blocks.items) ≡ l.initial.slots.items;
  sizes : All IsBlock l.blocks.items;
}

abbrev pub decreases-loop-slots : goal.decreases-loop-slots
decreases-loop-slots l = length l.slots.items
