use Rattle.std.proofs.Common.{◌≡◌, take}
use Rattle.stacks_vars.proofs.lent.Stack+LentItem.fill_rest.Given as goal

abbrev pub invariant-loop-item : goal.invariant-loop-item
invariant-loop-item l = l.items.items ≡ take l.item-index l.item-items
