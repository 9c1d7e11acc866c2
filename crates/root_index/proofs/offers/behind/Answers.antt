use Rattle.std.proofs.Common.{◌∙◌, sym, arith}
use Rattle.root_index.proofs.PassedOver.{none_after, none_left}
use Rattle.root_index.proofs.offers.behind.Goals as goal

pub returns-in-Some : goal.returns-in-Some
returns-in-Some c = λ symbols told.
    none_left c.args.slots.now symbols c.len-all.result (omega (arith, c.len-all.ensures))
    ∙ sym (none_after c.args.slots.now symbols c.args.place c.args.slot.now c.in-Some.other.now c.requires.order c.requires.there c.in-Some.ensures (c.ends_before.ensures c.if-ends_before.true) told)
