use Rattle.root_index.specs.Blocks.{begins_by}
use Rattle.root_index.proofs.Starts.{begun_is, past_all}
use Rattle.root_index.proofs.slot_list.has_begun.Goals as goal

-- there is the block
pub returns-then-block-starts-clause-begun : goal.returns-then-block-starts-clause-begun
returns-then-block-starts-clause-begun c = begun_is (begins_by c.args.place) c.args.starts.now c.args.block 0 c.requires c.if-block-starts.true

-- there is none
pub returns-else-block-starts-clause-begun : goal.returns-else-block-starts-clause-begun
returns-else-block-starts-clause-begun c = past_all (begins_by c.args.place) c.args.starts.now c.args.block c.if-block-starts.false
