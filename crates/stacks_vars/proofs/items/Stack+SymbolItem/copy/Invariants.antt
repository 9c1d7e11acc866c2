use Rattle.std.proofs.Common.{◌≡◌, take}
use Rattle.stacks_vars.proofs.items.Stack+SymbolItem.copy.Given as goal

abbrev pub invariant-loop-item : goal.invariant-loop-item
invariant-loop-item l = l.copies.items ≡ take l.item-index l.item-items
