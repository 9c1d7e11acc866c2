use Rattle.std.proofs.Common.{rules, take}
use Rattle.std.proofs.lemmas.List.Sorted.{IsPartitionPoint-from_clause}
use Rattle.partial_path.specs.Keys.{texts}
use Rattle.partial_path.proofs.Halved.{prefix_from_point}
use Rattle.root_index.specs.Inside.{is_before_key}
use Rattle.root_index.proofs.slot_list.paths_within.Goals as goal

pub returns-clause-value : goal.returns-clause-value
returns-clause-value c =
    prefix_from_point (is_before_key (take c.args.count (texts c.args.symbols.now))) _ _ c.partition_point.ensures.bound
    (IsPartitionPoint-from_clause (is_before_key (take c.args.count (texts c.args.symbols.now))) _ _ c.partition_point.ensures.partitioned c.requires.parted (λ a r q k. search rules))
