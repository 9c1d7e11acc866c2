use Rattle.std.proofs.Common.{rules}
use Rattle.std.proofs.lemmas.List.Sorted.{IsPartitionPoint-from_clause}
use Rattle.partial_path.proofs.Halved.{prefix_from_point}
use Rattle.nav_answers.specs.Links.{is_before}
use Rattle.nav_answers.proofs.links.count_before.Goals as goal

pub returns-clause-value : goal.returns-clause-value
returns-clause-value c =
    prefix_from_point (is_before c.args.definition) _ _ c.partition_point.ensures.bound
    (IsPartitionPoint-from_clause (is_before c.args.definition) _ _ c.partition_point.ensures.partitioned c.requires (λ a r q k. search rules))
