use Rattle.std.proofs.Common.{◌<◌, ◌-◌, ◌∙◌, sym, ap, subst, arith, length}
use Rattle.std.specs.List.{prefix_len}
use Rattle.std.specs.List.Sorted.{IsPartitionedBy}
use Rattle.root_index.specs.Blocks.{is_up_to, all_paths}
use Rattle.root_index.proofs.InBlocks.{parted_block}
use Rattle.root_index.proofs.Sized.{blocks_filled, no_place, parted_up_to}
use Rattle.root_index.proofs.Placed.{place_found}
use Rattle.root_index.proofs.blocks.Blocks.place_of.Goals as goal

pub returns-then-count-eq0 : goal.returns-then-count-eq0
returns-then-count-eq0 c =
    no_place c.args.slot.now c.args.self.now (blocks_filled c.args.self.now c.blocks_up_to-count.ensures.sizes) c.requires (sym c.blocks_up_to-count.ensures.value ∙ c.if-count-eq0.true)

pub paths_up_to-requires : goal.paths_up_to-requires
paths_up_to-requires c =
    let here = rw c.self.view_is at c.index.ensures in
    let bound = c.blocks_up_to-count.ensures.bound in
    let some = c.if-count-eq0.false in
    let inside : c.blocks_up_to-count.result - 1 < length c.args.self.now = omega (arith, bound, some) in
    subst (IsPartitionedBy (is_up_to c.args.slot.now)) (sym (c.slots.ensures.slots ∙ here))
    (parted_block (is_up_to c.args.slot.now) c.args.self.now (c.blocks_up_to-count.result - 1) c.index.result.now inside (parted_up_to c.args.slot.now (all_paths c.args.self.now) c.requires))

pub returns : goal.returns
returns c =
    place_found c.args.slot.now c.args.self.now c.blocks_up_to-count.result c.paths_up_to.result c.index.result.now c.blocks_up_to-count.ensures.sizes c.requires
    c.blocks_up_to-count.ensures.value c.if-count-eq0.false (rw c.self.view_is at c.index.ensures) (c.paths_up_to.ensures.value ∙ ap (prefix_len (is_up_to c.args.slot.now)) c.slots.ensures.slots)
