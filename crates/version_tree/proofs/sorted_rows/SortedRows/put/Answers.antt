use Rattle.std.proofs.Common.{sym, subst}
use Rattle.version_tree.specs.Contents.{AreRows}
use Rattle.version_tree.proofs.Found as found
use Rattle.version_tree.proofs.Parts.{with-rows}
use Rattle.version_tree.proofs.sorted_rows.SortedRows.put.Goals as goal

pub invariant_of-self : goal.invariant_of-self
invariant_of-self c =
    rw c.self.view_is (subst AreRows (sym (found.put-at c.args.row c.path.result.now c.args.self.now c.in-Ok.i c.path.ensures.value c.in-Ok.ensures.found c.in-Ok.ensures.rows.order))
    (with-rows c.args.row.path c.args.row.file c.args.self.now c.path.ensures.sets c.in-Ok.ensures.rows))

pub invariant_of-self-in-Err : goal.invariant_of-self-in-Err
invariant_of-self-in-Err c =
    rw (c.in_ok-insert-in-Err.ensures.items, c.self.view_is) (subst AreRows (sym (found.put-gap c.args.row c.path.result.now c.args.self.now c.in-Err.i c.path.ensures.value c.in-Err.ensures.absent))
    (with-rows c.args.row.path c.args.row.file c.args.self.now c.path.ensures.sets c.in-Err.ensures.rows))

pub returns-in-Ok-clause-ok : goal.returns-in-Ok-clause-ok
returns-in-Ok-clause-ok c =
    rw c.self.view_is (found.put-at c.args.row c.path.result.now c.args.self.now c.in-Ok.i c.path.ensures.value c.in-Ok.ensures.found c.in-Ok.ensures.rows.order)

pub returns-in_ok-insert-in-Err-clause-ok : goal.returns-in_ok-insert-in-Err-clause-ok
returns-in_ok-insert-in-Err-clause-ok c =
    rw (c.in_ok-insert-in-Err.ensures.items, c.self.view_is) (found.put-gap c.args.row c.path.result.now c.args.self.now c.in-Err.i c.path.ensures.value c.in-Err.ensures.absent)
