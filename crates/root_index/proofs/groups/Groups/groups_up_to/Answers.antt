use Rattle.std.proofs.Common.{rules}
use Rattle.std.proofs.lemmas.List.Sorted.{IsPartitionPoint-from_clause}
use Rattle.partial_path.proofs.Halved.{prefix_from_point}
use Rattle.root_index.specs.Blocks.{first_passes, is_up_to}
use Rattle.root_index.proofs.InBlocks.{parted_blocks}
use Rattle.root_index.proofs.Sized.{parted_up_to}
use Rattle.root_index.proofs.groups.Groups.groups_up_to.Goals as goal

pub returns-clause-value : goal.returns-clause-value
returns-clause-value c =
    rw (← c.self.view_is, ← c.deref.ensures.value)
    (prefix_from_point (first_passes (is_up_to c.args.slot.now)) _ _ c.partition_point.ensures.bound
    (IsPartitionPoint-from_clause (first_passes (is_up_to c.args.slot.now)) _ _ c.partition_point.ensures.partitioned
    (rw (c.deref.ensures.value, c.self.view_is)
    (parted_blocks (is_up_to c.args.slot.now) c.args.self.now (rw c.self.view_is at c.self.invariant) (parted_up_to c.args.slot.now _ c.requires)))
    (λ a r q k. search rules)))
