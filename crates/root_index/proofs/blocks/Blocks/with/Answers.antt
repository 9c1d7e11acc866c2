-- The paths of one block with the path are the block's among all paths with it.
use Rattle.std.proofs.Common.{ap, ◌∙◌}
use Rattle.std.specs.List.{insert}
use Rattle.root_index.proofs.Placed.{put_there}
use Rattle.root_index.proofs.blocks.Blocks.with.Goals as goal

pub returns : goal.returns
returns c =
    let changed = c.in_ok-insert.ensures.items ∙ ap (λ xs. insert xs c.place_for-block.result.1 c.args.slot) c.in_ok-slots.ensures in
    let there = put_there c.args.slot c.args.self c.place_for-block.result.0 c.place_for-block.result.1 c.index.result.now (rw c.self.view_is at c.index.ensures) c.place_for-block.ensures c.args.slot in
    rw (← there, ← changed) c.replaced.ensures
