use Rattle.std.proofs.Common.{ap, sym, subst, ◌∙◌, arith, take}
use Rattle.std.specs.List.{prefix_len}
use Rattle.std.specs.List.Sorted.{IsPartitionedBy}
use Rattle.partial_path.specs.Keys.{texts}
use Rattle.root_index.specs.Blocks.{first_passes}
use Rattle.root_index.specs.Inside.{is_before_key}
use Rattle.root_index.proofs.InBlocks.{parted_blocks}
use Rattle.root_index.proofs.Sized.{none_within, last_parted, last_end, end_bound}
use Rattle.root_index.proofs.group_list.GroupList.end_of.Goals as goal

pub groups_within-found-requires-clause-parted : goal.groups_within-found-requires-clause-parted
groups_within-found-requires-clause-parted c =
    subst (IsPartitionedBy (first_passes (is_before_key (take c.args.count (texts c.args.symbols.now))))) (sym c.groups-groups.ensures.groups)
    (parted_blocks (is_before_key (take c.args.count (texts c.args.symbols.now))) c.self.inside.groups c.groups-groups.ensures.sizes (subst (IsPartitionedBy (is_before_key (take c.args.count (texts c.args.symbols.now)))) (sym c.self.view_is) c.requires.parted))

pub returns-then-found-eq0-clause-value : goal.returns-then-found-eq0-clause-value
returns-then-found-eq0-clause-value c =
    none_within (is_before_key (take c.args.count (texts c.args.symbols.now))) c.self.inside.groups c.groups_within-found.result c.args.self.now c.groups-groups.ensures.sizes c.self.view_is c.requires.parted
    (c.groups_within-found.ensures.value ∙ ap (prefix_len (first_passes (is_before_key (take c.args.count (texts c.args.symbols.now))))) c.groups-groups.ensures.groups) c.if-found-eq0.true

pub end_of-requires-clause-parted : goal.end_of-requires-clause-parted
end_of-requires-clause-parted c =
    subst (IsPartitionedBy (is_before_key (take c.args.count (texts c.args.symbols.now)))) (sym c.slots.ensures.slots)
    (last_parted (is_before_key (take c.args.count (texts c.args.symbols.now))) c.self.inside.groups c.groups-groups.result.now c.groups_within-found.result c.index-groups-group.result c.args.self.now
    c.groups-groups.ensures.groups c.self.view_is c.requires.parted c.groups_within-found.ensures.bound c.if-found-eq0.false c.index-groups-group.is)

pub returns-clause-value : goal.returns-clause-value
returns-clause-value c =
    last_end (is_before_key (take c.args.count (texts c.args.symbols.now))) c.self.inside.groups c.groups-groups.result.now c.groups_within-found.result c.index-groups-group.result c.args.self.now
    c.groups-groups.ensures.groups c.self.view_is c.requires.parted c.groups_within-found.ensures.bound c.if-found-eq0.false c.index-groups-group.is
    c.self.inside.starts.items c.index.result.now c.end_of.result c.groups-groups.ensures.sizes c.self.invariant.0 c.groups_within-found.ensures.value c.index.ensures
    (c.end_of.ensures.value ∙ ap (prefix_len (is_before_key (take c.args.count (texts c.args.symbols.now)))) c.slots.ensures.slots)

pub returns-clause-bound : goal.returns-clause-bound
returns-clause-bound c = end_bound (is_before_key (take c.args.count (texts c.args.symbols.now))) c.args.self.now _ (returns-clause-value c)

pub overflow_add-result : goal.overflow_add-result
overflow_add-result c =
    let bound = returns-clause-bound c in
    let fits = (rw c.self.view_is at c.self.invariant).2 in
    omega (arith, bound, fits)
