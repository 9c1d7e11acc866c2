-- The rows of the block that the path goes to, without the path, are the block's among all rows without it.
use Rattle.std.proofs.Common.{ap, ◌∙◌, subst, arith}
use Rattle.version_tree.specs.Contents.{IsInOrder, without_row}
use Rattle.version_tree.proofs.Parts.{filter-in-order}
use Rattle.version_tree.proofs.ByBlock.{without-there, without-length}
use Rattle.version_tree.proofs.blocks.Blocks.without.Goals as goal

pub replaced-requires-clause-few : goal.replaced-requires-clause-few
replaced-requires-clause-few c =
    let changed = c.remove.ensures ∙ ap (without_row c.args.path.now) (c.in_ok-rows.ensures ∙ c.rows.ensures.rows) in
    let short = without-length c.args.path.now c.index.result.now in
    let few = c.rows.ensures.size.few in
    rw changed (omega (arith, short, few))

pub replaced-requires-clause-order : goal.replaced-requires-clause-order
replaced-requires-clause-order c =
    let changed = c.remove.ensures ∙ ap (without_row c.args.path.now) (c.in_ok-rows.ensures ∙ c.rows.ensures.rows) in
    let there = without-there c.args.path.now c.args.self c.in-Some.i c.index.result.now c.in-Some.ensures (rw c.self.view_is at c.index.ensures) in
    let sound = rw c.self.view_is at c.self.invariant.0 in
    rw changed (subst IsInOrder there (filter-in-order _ _ sound.order))

pub returns : goal.returns
returns c =
    let changed = c.remove.ensures ∙ ap (without_row c.args.path.now) (c.in_ok-rows.ensures ∙ c.rows.ensures.rows) in
    let there = without-there c.args.path.now c.args.self c.in-Some.i c.index.result.now c.in-Some.ensures (rw c.self.view_is at c.index.ensures) in
    rw (there, ← changed) c.replaced.ensures
