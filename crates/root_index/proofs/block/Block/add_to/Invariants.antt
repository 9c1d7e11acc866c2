use Rattle.std.proofs.Common.{◌≡◌, ◌++◌, take}
use Rattle.root_index.proofs.block.Block.add_to.Given as goal

-- the paths passed are added
abbrev pub invariant-loop-slot : goal.invariant-loop-slot
invariant-loop-slot l = l.slots.items ≡ l.initial.slots.items ++ take l.slot-index l.slot-items
