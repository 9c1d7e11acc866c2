use Rattle.std.proofs.lemmas.Bool.Decides.{same_from_decides}
use Rattle.std.specs.Cmp.Lexicographic.{pointwise}
use Rattle.stacks_vars.specs.Same.{item_eq}
use Rattle.stacks_vars.proofs.SameLaws.{items_told, items_eq-Decides}
use Rattle.stacks_vars.proofs.lent.Stack+LentItem.same.Goals as goal

pub returns-clause-eq : goal.returns-clause-eq
returns-clause-eq c =
    same_from_decides c.same_items.result (pointwise item_eq c.args.self.now c.args.other.now)
    (items_told c.same_items.result c.args.self.now c.args.other.now c.reversed.result.now c.reversed-2.result.now c.same_items.ensures c.reversed.ensures c.reversed-2.ensures)
    (items_eq-Decides c.args.self.now c.args.other.now)

pub returns-clause-exact : goal.returns-clause-exact
returns-clause-exact c =
    items_told c.same_items.result c.args.self.now c.args.other.now c.reversed.result.now c.reversed-2.result.now c.same_items.ensures c.reversed.ensures c.reversed-2.ensures
