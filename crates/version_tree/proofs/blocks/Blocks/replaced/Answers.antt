-- The rows of one block are counted out, and those in its place counted in.
use Rattle.std.proofs.Common.{◌≡◌, ◌+◌, ◌-◌, ap, ◌∙◌, arith, length}
use Rattle.version_tree.specs.Blocks.{all_rows}
use Rattle.version_tree.proofs.ByBlock.{count-there, count-replaced, sound-replaced}
use Rattle.version_tree.proofs.blocks.Blocks.replaced.Goals as goal

pub overflow_sub-left : goal.overflow_sub-left
overflow_sub-left c =
    let whole = count-there c.args.self c.args.i c.index.result.now c.requires.in_range (rw c.self.view_is at c.index.ensures) in
    let size = c.len.ensures.count ∙ ap length c.rows.ensures.rows in
    let count = rw c.self.view_is at c.self.invariant.1 in
    omega (arith, whole, size, count)

pub invariant_of-result : goal.invariant_of-result
invariant_of-result c =
    let here = rw c.self.view_is at c.index.ensures in
    let whole = count-there c.args.self c.args.i c.index.result.now c.requires.in_range here in
    let size = c.len.ensures.count ∙ ap length c.rows.ensures.rows in
    let count = rw c.self.view_is at c.self.invariant.1 in
    let left : (c.self.inside.count - c.len.result) + length c.index.result.now ≡ length (all_rows c.args.self) = omega (arith, whole, size, count) in
    let told = (rw c.in_ok-count.ensures.ok_part at c.checked_add.ensures).1 in
    rw (c.in_ok-replace.ensures, c.self.view_is) (
      sound-replaced c.args.self c.args.i c.index.result.now c.requires.in_range here c.in_ok-parts.parts.items c.args.rows c.in_ok-parts.ensures.rows
          (rw c.self.view_is at c.self.invariant.0) c.in_ok-parts.ensures.sizes c.len-2.ensures.rows.sets c.requires.order,
      told ∙ ap (λ n. (c.self.inside.count - c.len.result) + n) c.len-2.ensures.count
          ∙ count-replaced c.args.self c.args.i c.index.result.now c.requires.in_range here c.in_ok-parts.parts.items c.args.rows c.in_ok-parts.ensures.rows (c.self.inside.count - c.len.result) left,
    )
