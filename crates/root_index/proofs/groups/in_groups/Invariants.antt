use Rattle.std.proofs.Common.{◌≡◌, ◌++◌, length, reverse}
use Rattle.std.specs.Prelude.{All}
use Rattle.root_index.specs.Blocks.{all_paths}
use Rattle.root_index.specs.Groups.{IsGroup}
use Rattle.root_index.proofs.groups.in_groups.Given as goal

-- the groups made are the last ones, the last of them first
abbrev pub invariant-loop-blocks : goal.invariant-loop-blocks
invariant-loop-blocks l = record {
  paths : all_paths l.blocks ++ all_paths (reverse l.groups.items) ≡ all_paths l.initial.blocks;
  sizes : All IsGroup l.groups.items;
}

abbrev pub decreases-loop-blocks : goal.decreases-loop-blocks
decreases-loop-blocks l = length l.blocks
