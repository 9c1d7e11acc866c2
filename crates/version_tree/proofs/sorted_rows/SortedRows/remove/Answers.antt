use Rattle.std.proofs.Common.{sym, subst}
use Rattle.version_tree.specs.Contents.{AreRows}
use Rattle.version_tree.proofs.Found as found
use Rattle.version_tree.proofs.Parts.{filter-rows}
use Rattle.version_tree.proofs.sorted_rows.SortedRows.remove.Goals as goal

pub invariant_of-self : goal.invariant_of-self
invariant_of-self c =
    rw (c.remove.ensures.items, c.self.view_is) (subst AreRows (found.at-without c.args.path.now _ _ c.in-Ok.ensures.found c.in-Ok.ensures.rows.order) (filter-rows _ _ c.in-Ok.ensures.rows))

pub returns-in-Ok : goal.returns-in-Ok
returns-in-Ok c =
    rw (c.remove.ensures.items, c.self.view_is) (sym (found.at-without _ _ _ c.in-Ok.ensures.found c.in-Ok.ensures.rows.order))

pub returns-in_default : goal.returns-in_default
returns-in_default c = sym (found.gap-without _ _ _ c.in_default.ensures.absent)
