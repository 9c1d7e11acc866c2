use Rattle.std.proofs.Common.{◌≡◌, sym, ◌∙◌, ap, take, true, false, arith}
use Rattle.std.specs.Ordering.{is_eq}
use Rattle.partial_path.specs.Keys.{texts}
use Rattle.partial_path.specs.Inside.{slot_side}
use Rattle.partial_path.proofs.Offered.{none_there, first_there, none_behind_there}
use Rattle.partial_path.proofs.slots.first_in_slot.Goals as goal

pub returns-then-place-size : goal.returns-then-place-size
returns-then-place-size c =
    none_there c.args.start (take c.args.count (texts c.args.symbols.now)) c.args.paths.now c.count_before-place.result c.count_before-place.ensures.value
    (c.if-place-size.true ∙ c.len-size.ensures)

pub returns-then-is_eq : goal.returns-then-is_eq
returns-then-is_eq c =
    let there : is_eq (slot_side c.args.start (take c.args.count (texts c.args.symbols.now)) c.at.result) ≡ true = ap is_eq (sym c.slot_side.ensures) ∙ sym c.is_eq.ensures ∙ c.if-is_eq.true in
    first_there c.args.start (take c.args.count (texts c.args.symbols.now)) c.args.paths.now c.count_before-place.result c.at.result c.count_before-place.ensures.value
    (omega (arith, c.count_before-place.ensures.bound, c.if-place-size.false, c.len-size.ensures)) c.at.ensures.is there

pub returns-else-is_eq : goal.returns-else-is_eq
returns-else-is_eq c =
    let other : is_eq (slot_side c.args.start (take c.args.count (texts c.args.symbols.now)) c.at.result) ≡ false = ap is_eq (sym c.slot_side.ensures) ∙ sym c.is_eq.ensures ∙ c.if-is_eq.false in
    none_behind_there c.args.start (take c.args.count (texts c.args.symbols.now)) c.args.paths.now c.count_before-place.result c.at.result c.requires.order c.count_before-place.ensures.value
    (omega (arith, c.count_before-place.ensures.bound, c.if-place-size.false, c.len-size.ensures)) c.at.ensures.is other
