use Rattle.version_tree.proofs.ByBlock.{weight-without-there, weight-with-there}
use Rattle.version_tree.proofs.blocks.Blocks.weight_at.Goals as goal

pub returns-in-Some-clause-without : goal.returns-in-Some-clause-without
returns-in-Some-clause-without c =
    weight-without-there c.args.path.now c.args.self.now c.in-Some.i c.index.result.now c.in-Some.ensures (rw c.self.view_is at c.index.ensures)
    c.weight_at.result (rw c.rows.ensures.rows at c.weight_at.ensures.without)

pub returns-in-Some-clause-with : goal.returns-in-Some-clause-with
returns-in-Some-clause-with c = λ file.
    weight-with-there c.args.path.now c.args.self.now c.in-Some.i c.index.result.now c.in-Some.ensures (rw c.self.view_is at c.index.ensures)
    c.weight_at.result file (rw c.rows.ensures.rows at (c.weight_at.ensures.with file))
