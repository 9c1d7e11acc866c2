use Rattle.std.proofs.Common.{rules}
use Rattle.std.proofs.lemmas.List.Sorted.{IsPartitionPoint-from_clause}
use Rattle.partial_path.proofs.Halved.{prefix_from_point}
use Rattle.end_index.specs.Runs.{is_before_run}
use Rattle.end_index.proofs.runs.count_before.Goals as goal

pub returns : goal.returns
returns c =
    prefix_from_point (is_before_run c.args.key) _ _ c.partition_point.ensures.bound
    (IsPartitionPoint-from_clause (is_before_run c.args.key) _ _ c.partition_point.ensures.partitioned c.requires (λ a r q k. search rules))
