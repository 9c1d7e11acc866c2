use Rattle.std.proofs.Common.{rules}
use Rattle.std.proofs.lemmas.List.Sorted.{IsPartitionPoint-from_clause}
use Rattle.partial_path.proofs.Halved.{prefix_from_point}
use Rattle.root_index.specs.Blocks.{begins_by}
use Rattle.root_index.proofs.slot_list.blocks_begun.Goals as goal

pub returns-clause-value : goal.returns-clause-value
returns-clause-value c =
    prefix_from_point (begins_by c.args.place) _ _ c.partition_point.ensures.bound
    (IsPartitionPoint-from_clause (begins_by c.args.place) _ _ c.partition_point.ensures.partitioned c.requires (λ a r q k. search rules))
