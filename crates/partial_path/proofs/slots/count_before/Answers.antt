use Rattle.std.proofs.Common.{rules, take}
use Rattle.partial_path.specs.Keys.{texts}
use Rattle.partial_path.specs.Inside.{slot_side, is_before_slot}
use Rattle.partial_path.proofs.Halved.{parted_before}
use Rattle.partial_path.proofs.KeyOrders.{slots_rise}
use Rattle.partial_path.proofs.slots.count_before.Goals as goal

pub returns-clause-value : goal.returns-clause-value
returns-clause-value c =
    let asked = take c.args.count (texts c.args.symbols.now) in
    c.count_first.ensures.value (is_before_slot c.args.start asked) (λ path passed k. search rules)
    (parted_before (slot_side c.args.start asked) _ (slots_rise c.args.paths.now c.args.start asked c.requires.order))
