use Rattle.std.proofs.Common.{rules}
use Rattle.std.proofs.lemmas.List.Sorted.{IsPartitionPoint-from_clause}
use Rattle.partial_path.proofs.Halved.{prefix_from_point}
use Rattle.root_index.specs.Blocks.{first_passes, is_up_to}
use Rattle.root_index.proofs.halving.begun.Goals as goal

pub returns-clause-value : goal.returns-clause-value
returns-clause-value c =
    prefix_from_point (first_passes (is_up_to c.args.slot.now)) _ _ c.partition_point.ensures.bound
    (IsPartitionPoint-from_clause (first_passes (is_up_to c.args.slot.now)) _ _ c.partition_point.ensures.partitioned c.requires (λ a r q k. search rules))
