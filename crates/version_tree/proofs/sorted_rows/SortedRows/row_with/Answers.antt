use Rattle.version_tree.proofs.Found.{row-at, gap-has}
use Rattle.version_tree.proofs.sorted_rows.SortedRows.row_with.Goals as goal

pub returns-in-Ok : goal.returns-in-Ok
returns-in-Ok c = row-at c.args.path.now c.args.self.now c.in-Ok.i c.index.result.now c.in-Ok.ensures.found (rw c.self.view_is at c.index.ensures)

pub returns-in-Err : goal.returns-in-Err
returns-in-Err c = gap-has c.args.path.now c.args.self.now _ c.in-Err.ensures.absent
