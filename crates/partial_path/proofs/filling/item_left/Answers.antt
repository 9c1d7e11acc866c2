use Rattle.std.proofs.Common.{◌≡◌, sym, ◌∙◌, subst, arith, List, IfOk, length}
use Rattle.stacks_vars.specs.declared.scopes.NodeAt.{NodeAt}
use Rattle.partial_path.proofs.KeyOrders.{turned_length}
use Rattle.partial_path.proofs.Leaving.{item_there, none_past, none_there}
use Rattle.partial_path.proofs.filling.item_left.Goals.{then-place-asked-via-then-place-asked, then-place-asked-via-else-place-asked+then-place-stored}
use Rattle.partial_path.proofs.filling.item_left.Goals as goal

-- there is no such symbol, or none is asked for
pub returns-then-place-asked : goal.returns-then-place-asked
returns-then-place-asked c =
    let size : length c.reversed-stored.result.now ≡ length c.args.symbols.now = turned_length c.reversed-stored.result.now c.args.symbols.now c.reversed-stored.ensures in
    elim c.then-place-asked.branch [
      | then-place-asked-via-then-place-asked w ↦ c.new.ensures ∙ sym (none_past c.args.asked.now c.args.symbols.now c.args.place (omega (arith, w.if-place-asked.true)))
      | then-place-asked-via-else-place-asked+then-place-stored w ↦ c.new.ensures ∙ sym (none_there c.args.asked.now c.args.symbols.now c.args.place (omega (arith, w.if-place-stored.true, size)))
    ]

-- there is one
pub returns : goal.returns
returns c =
    subst (λ (rest : List NodeAt). IfOk c.attached_left.result (λ (left : List NodeAt). left ≡ rest))
    (item_there c.args.asked.now c.args.symbols.now c.reversed-stored.result.now c.args.place c.index-asked-place.result c.index-stored-stored.result c.reversed-stored.ensures
    (omega (arith, c.if-place-asked.false)) (omega (arith, c.if-place-stored.false)) c.index-asked-place.is c.index-stored-stored.is)
    c.attached_left.ensures
