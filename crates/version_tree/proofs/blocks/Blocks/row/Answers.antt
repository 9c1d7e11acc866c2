-- The place counts the rows of the blocks that were passed, and what is left the others.
use Rattle.std.proofs.Common.{◌∙◌, ◌+◌, ◌-◌, ap, sym, length, drop, slice_get}
use Rattle.version_tree.specs.Blocks.{all_rows}
use Rattle.version_tree.proofs.Joined.{row-here, row-later, row-none}
use Rattle.version_tree.proofs.blocks.Blocks.row.Goals as goal

pub loop-block-init : goal.loop-block-init
loop-block-init c = ap (λ blocks. slice_get (all_rows blocks) c.args.place) (sym c.self.view_is ∙ sym c.deref-block-items.ensures.value)

pub returns-then-left-len : goal.returns-then-left-len
returns-then-left-len c =
    sym (c.loop-block.invariant ∙ row-here c.deref-block-items.result.now c.loop-block.block-index c.block-item.result c.loop-block-test.true c.block-item.is
    c.loop-block.left c.row.result.now (rw c.rows-rows.ensures.rows at c.row.ensures))

pub loop-block-preserved : goal.loop-block-preserved
loop-block-preserved c =
    let size = c.len.ensures.count ∙ ap length c.rows-rows.ensures.rows in
    let again = c.len-left.ensures.count ∙ ap length c.rows-rows.ensures.rows in
    c.loop-block.invariant ∙ row-later c.deref-block-items.result.now c.loop-block.block-index c.block-item.result c.loop-block-test.true c.block-item.is
    c.loop-block.left (rw size at c.if-left-len.false) ∙ ap (λ n. slice_get (all_rows (drop (c.loop-block.block-index + 1) c.deref-block-items.result.now)) (c.loop-block.left - n)) (sym again)

pub returns : goal.returns
returns c = sym (c.loop-block.invariant ∙ row-none c.deref-block-items.result.now c.loop-block.block-index c.loop-block.left c.loop-block-test.false)
