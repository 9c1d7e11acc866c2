use Rattle.std.proofs.Common.{sym, ◌∙◌, subst, take}
use Rattle.std.specs.List.Sorted.{IsPartitionedBy}
use Rattle.partial_path.specs.Keys.{texts}
use Rattle.partial_path.specs.Inside.{slot_side, is_before_slot, is_at_slot}
use Rattle.partial_path.proofs.Halved.{parted_there}
use Rattle.partial_path.proofs.KeyOrders.{slots_rise, slot_run_is}
use Rattle.partial_path.proofs.Points.{rest_is, run_cut}
use Rattle.partial_path.proofs.slots.run_asking.Goals as goal

pub count_at-many-requires-clause-parted : goal.count_at-many-requires-clause-parted
count_at-many-requires-clause-parted c =
    let asked = take c.args.count (texts c.args.symbols.now) in
    let rest = rest_is (is_before_slot c.args.start asked) (is_at_slot c.args.start asked) _ _ _ c.count_before-low.ensures.value _ c.between.ensures.value c.len.ensures in
    subst (IsPartitionedBy (is_at_slot c.args.start asked)) (sym rest)
    (parted_there (slot_side c.args.start asked) c.args.paths.now (slots_rise c.args.paths.now c.args.start asked c.requires.order))

pub returns-clause-run : goal.returns-clause-run
returns-clause-run c =
    let asked = take c.args.count (texts c.args.symbols.now) in
    let low = c.count_before-low.ensures.value in
    let rest = rest_is (is_before_slot c.args.start asked) (is_at_slot c.args.start asked) _ _ _ low _ c.between.ensures.value c.len.ensures in
    run_cut (is_before_slot c.args.start asked) (is_at_slot c.args.start asked) _ _ _ low _ rest c.count_at-many.ensures.value
    ∙ slot_run_is c.args.paths.now c.args.start asked c.requires.order
