use Rattle.std.proofs.Common.{rules, ◌≡◌, ◌∙◌, ap, sym, drop, reverse}
use Rattle.std.proofs.lemmas.List.{take_all}
use Rattle.stacks_vars.proofs.Turned.{behind_stored}
use Rattle.stacks_vars.proofs.lent.Stack+LentItem.fill_rest.Goals as goal

-- what is copied is what stands before those that go
pub returns : goal.returns
returns c =
    let stored : c.args.other.now ≡ reverse c.deref.result.now = search rules in
    behind_stored c.deref.result.now c.loop-item.items.items c.args.but c.saturating_sub-left.result (search rules)
    (c.loop-item.invariant ∙ take_all c.loop-item.item-index _ c.loop-item-test.false)
    ∙ ap (drop c.args.but) (sym stored)
