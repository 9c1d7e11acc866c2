use Rattle.std.proofs.Common.{sym, subst}
use Rattle.version_tree.specs.Contents.{AreRows}
use Rattle.version_tree.proofs.Joined.{rows-take, rows-drop}
use Rattle.version_tree.proofs.sorted_rows.SortedRows.split_at.Goals as goal

pub invariant_of-result : goal.invariant_of-result
invariant_of-result c = subst AreRows (sym c.in_ok-later.ensures.items) (rows-take c.args.at _ c.self.invariant)

pub invariant_of-result-2 : goal.invariant_of-result-2
invariant_of-result-2 c = subst AreRows (sym c.in_ok-later.ensures.tail) (rows-drop c.args.at _ c.self.invariant)
