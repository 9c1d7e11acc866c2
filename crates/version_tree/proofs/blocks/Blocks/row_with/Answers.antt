use Rattle.version_tree.proofs.ByBlock.{row-there}
use Rattle.version_tree.proofs.blocks.Blocks.row_with.Goals as goal

pub returns-in-Some-clause-row : goal.returns-in-Some-clause-row
returns-in-Some-clause-row c =
    row-there (λ r. r.now) c.args.path.now c.args.self.now c.in-Some.i c.index.result.now c.in-Some.ensures (rw c.self.view_is at c.index.ensures)
    c.row_with.result (rw c.rows.ensures.rows at c.row_with.ensures)
