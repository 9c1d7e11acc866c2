use Rattle.std.proofs.Common.{subst, sym, ◌∙◌}
use Rattle.std.specs.List.Sorted.{IsPartitionedBy}
use Rattle.root_index.specs.Blocks.{first_passes, is_up_to}
use Rattle.root_index.proofs.InBlocks.{parted_blocks}
use Rattle.root_index.proofs.Sized.{blocks_filled, parted_up_to}
use Rattle.root_index.proofs.blocks.Blocks.blocks_up_to.Goals as goal

pub begun_near-requires : goal.begun_near-requires
begun_near-requires c =
    subst (IsPartitionedBy (first_passes (is_up_to c.args.slot.now))) (sym (c.as_slice.ensures.value ∙ c.self.view_is))
    (parted_blocks (is_up_to c.args.slot.now) c.args.self.now (blocks_filled c.args.self.now (rw c.self.view_is at c.self.invariant)) (parted_up_to c.args.slot.now _ c.requires))
