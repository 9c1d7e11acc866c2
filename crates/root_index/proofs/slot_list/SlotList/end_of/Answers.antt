use Rattle.std.proofs.Common.{ap, sym, subst, ◌∙◌, arith, take}
use Rattle.std.specs.List.{prefix_len}
use Rattle.std.specs.List.Sorted.{IsPartitionedBy}
use Rattle.partial_path.specs.Keys.{texts}
use Rattle.root_index.specs.Blocks.{first_passes}
use Rattle.root_index.specs.Inside.{is_before_key}
use Rattle.root_index.proofs.InBlocks.{parted_blocks}
use Rattle.root_index.proofs.Sized.{blocks_filled, none_within, last_parted, last_end, end_bound}
use Rattle.root_index.proofs.slot_list.SlotList.end_of.Goals as goal

pub blocks_within-found-requires-clause-parted : goal.blocks_within-found-requires-clause-parted
blocks_within-found-requires-clause-parted c =
    subst (IsPartitionedBy (first_passes (is_before_key (take c.args.count (texts c.args.symbols.now))))) (sym c.blocks-blocks.ensures.blocks)
    (parted_blocks (is_before_key (take c.args.count (texts c.args.symbols.now))) c.self.inside.blocks (blocks_filled c.self.inside.blocks c.blocks-blocks.ensures.sizes) (subst (IsPartitionedBy (is_before_key (take c.args.count (texts c.args.symbols.now)))) (sym c.self.view_is) c.requires.parted))

pub returns-then-found-eq0-clause-value : goal.returns-then-found-eq0-clause-value
returns-then-found-eq0-clause-value c =
    none_within (is_before_key (take c.args.count (texts c.args.symbols.now))) c.self.inside.blocks c.blocks_within-found.result c.args.self.now (blocks_filled c.self.inside.blocks c.blocks-blocks.ensures.sizes) c.self.view_is c.requires.parted
    (c.blocks_within-found.ensures.value ∙ ap (prefix_len (first_passes (is_before_key (take c.args.count (texts c.args.symbols.now))))) c.blocks-blocks.ensures.blocks) c.if-found-eq0.true

pub paths_within-requires-clause-parted : goal.paths_within-requires-clause-parted
paths_within-requires-clause-parted c =
    subst (IsPartitionedBy (is_before_key (take c.args.count (texts c.args.symbols.now)))) (sym c.slots.ensures.slots)
    (last_parted (is_before_key (take c.args.count (texts c.args.symbols.now))) c.self.inside.blocks c.blocks-blocks.result.now c.blocks_within-found.result c.index-blocks-block.result c.args.self.now
    c.blocks-blocks.ensures.blocks c.self.view_is c.requires.parted c.blocks_within-found.ensures.bound c.if-found-eq0.false c.index-blocks-block.is)

pub returns-clause-value : goal.returns-clause-value
returns-clause-value c =
    last_end (is_before_key (take c.args.count (texts c.args.symbols.now))) c.self.inside.blocks c.blocks-blocks.result.now c.blocks_within-found.result c.index-blocks-block.result c.args.self.now
    c.blocks-blocks.ensures.blocks c.self.view_is c.requires.parted c.blocks_within-found.ensures.bound c.if-found-eq0.false c.index-blocks-block.is
    c.self.inside.starts.items c.index.result.now c.paths_within.result (blocks_filled c.self.inside.blocks c.blocks-blocks.ensures.sizes) c.self.invariant.0 c.blocks_within-found.ensures.value c.index.ensures
    (c.paths_within.ensures.value ∙ ap (prefix_len (is_before_key (take c.args.count (texts c.args.symbols.now)))) c.slots.ensures.slots)

pub returns-clause-bound : goal.returns-clause-bound
returns-clause-bound c = end_bound (is_before_key (take c.args.count (texts c.args.symbols.now))) c.args.self.now _ (returns-clause-value c)

pub overflow_add-result : goal.overflow_add-result
overflow_add-result c =
    let bound = returns-clause-bound c in
    let fits = (rw c.self.view_is at c.self.invariant).2 in
    omega (arith, bound, fits)
