-- The rows of the block that the row goes to, with the row, are the block's among all rows with it.
use Rattle.std.proofs.Common.{ap, ◌∙◌, subst, arith}
use Rattle.version_tree.specs.Contents.{IsInOrder, with_row}
use Rattle.version_tree.proofs.Parts.{with-in-order}
use Rattle.version_tree.proofs.ByBlock.{with-there, with-length}
use Rattle.version_tree.proofs.blocks.Blocks.with.Goals as goal

pub replaced-requires-clause-few : goal.replaced-requires-clause-few
replaced-requires-clause-few c =
    let changed = c.in_ok-put.ensures.ok ∙ ap (with_row c.args.row.path c.args.row.file) (c.in_ok-rows.ensures ∙ c.rows.ensures.rows) in
    let long = with-length c.args.row.path c.args.row.file c.index.result.now in
    let few = c.rows.ensures.size.few in
    rw changed (omega (arith, long, few))

pub replaced-requires-clause-order : goal.replaced-requires-clause-order
replaced-requires-clause-order c =
    let changed = c.in_ok-put.ensures.ok ∙ ap (with_row c.args.row.path c.args.row.file) (c.in_ok-rows.ensures ∙ c.rows.ensures.rows) in
    let there = with-there c.args.row.path c.args.self c.in-Some.i c.index.result.now (rw c.path.ensures.value at c.in-Some.ensures) (rw c.self.view_is at c.index.ensures) c.args.row.file in
    let sound = rw c.self.view_is at c.self.invariant.0 in
    rw changed (subst IsInOrder there (with-in-order c.args.row.path c.args.row.file _ sound.order))

pub returns : goal.returns
returns c =
    let changed = c.in_ok-put.ensures.ok ∙ ap (with_row c.args.row.path c.args.row.file) (c.in_ok-rows.ensures ∙ c.rows.ensures.rows) in
    let there = with-there c.args.row.path c.args.self c.in-Some.i c.index.result.now (rw c.path.ensures.value at c.in-Some.ensures) (rw c.self.view_is at c.index.ensures) c.args.row.file in
    rw (there, ← changed) c.replaced.ensures
