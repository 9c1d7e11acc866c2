use Rattle.std.proofs.Common.{◌≡◌, ◌++◌, take}
use Rattle.root_index.specs.Blocks.{all_paths}
use Rattle.root_index.proofs.blocks.Blocks.add_to.Given as goal

-- the paths of the blocks passed are added
abbrev pub invariant-loop-block : goal.invariant-loop-block
invariant-loop-block l = l.slots.items ≡ l.initial.slots.items ++ all_paths (take l.block-index l.block-items)
