use Rattle.version_tree.proofs.Placed.{blocks-few}
use Rattle.version_tree.proofs.blocks.Blocks.block_count.Goals as goal

pub returns-clause-few : goal.returns-clause-few
returns-clause-few c = rw (← c.self.view_is) (blocks-few c.self.inside.blocks.items c.self.invariant.0.sizes)
