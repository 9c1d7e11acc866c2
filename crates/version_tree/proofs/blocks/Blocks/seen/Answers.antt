use Rattle.std.proofs.Common.{ap, ◌∙◌}
use Rattle.std.proofs.lemmas.List.{take_all}
use Rattle.version_tree.specs.Contents.{covered}
use Rattle.version_tree.specs.Blocks.{all_rows}
use Rattle.version_tree.proofs.Placed.{seen-sound}
use Rattle.version_tree.proofs.blocks.Blocks.seen.Goals as goal

pub invariant_of-result : goal.invariant_of-result
invariant_of-result c =
    let whole = take_all c.loop-block.block-index c.deref-block-items.result.now c.loop-block-test.false in
    let seen = c.loop-block.invariant.0
    ∙ ap (λ blocks. covered c.args.grants.now c.args.user.now (all_rows blocks)) (whole ∙ c.deref-block-items.ensures.value) in (
      seen-sound c.args.grants.now c.args.user.now c.self.inside.blocks.items c.loop-block.blocks.items c.self.invariant.0 c.loop-block.invariant.1 seen,
      c.loop-block.invariant.2,
    )
