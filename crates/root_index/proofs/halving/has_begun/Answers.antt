use Rattle.std.proofs.Common.{◌∙◌, ap}
use Rattle.root_index.specs.Blocks.{first_passes, is_up_to}
use Rattle.root_index.proofs.Starts.{begun_is, past_all}
use Rattle.root_index.proofs.halving.has_begun.Goals as goal

-- there is the block
pub returns-then-block-blocks-clause-begun : goal.returns-then-block-blocks-clause-begun
returns-then-block-blocks-clause-begun c =
    c.begins_up_to.ensures ∙ ap (first_passes (is_up_to c.args.slot.now)) c.index-blocks-block.is
    ∙ begun_is (first_passes (is_up_to c.args.slot.now)) c.args.blocks.now c.args.block c.index-blocks-block.result c.requires c.if-block-blocks.true

-- there is none
pub returns-else-block-blocks-clause-begun : goal.returns-else-block-blocks-clause-begun
returns-else-block-blocks-clause-begun c = past_all (first_passes (is_up_to c.args.slot.now)) c.args.blocks.now c.args.block c.if-block-blocks.false
