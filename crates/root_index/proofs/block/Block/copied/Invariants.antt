use Rattle.std.proofs.Common.{◌≡◌, take}
use Rattle.root_index.proofs.block.Block.copied.Given as goal

abbrev pub invariant-loop-slot : goal.invariant-loop-slot
invariant-loop-slot l = l.slots.items ≡ take l.slot-index l.slot-items
