use Rattle.std.proofs.Common.{sym, ◌∙◌, ◌<◌, ◌-◌, take, arith}
use Rattle.std.specs.List.{prefix_len}
use Rattle.partial_path.specs.Keys.{texts}
use Rattle.root_index.specs.Inside.{is_before_key}
use Rattle.root_index.proofs.PassedOver.{parted_before, before_first}
use Rattle.root_index.proofs.offers.passed.Goals as goal

pub returns-then-is_before-clause-passed : goal.returns-then-is_before-clause-passed
returns-then-is_before-clause-passed c =
    let last : c.seems_to_begin-told.result.0 - 1 < prefix_len (is_before_key (take c.args.count (texts c.args.symbols.now))) c.args.slots.now
    = before_first c.args.slots.now (take c.args.count (texts c.args.symbols.now)) (c.seems_to_begin-told.result.0 - 1) c.requires.order (sym c.is_before.ensures ∙ c.if-is_before.true) in
    omega (arith, last)

pub end_of-requires-clause-parted : goal.end_of-requires-clause-parted
end_of-requires-clause-parted c = parted_before c.args.slots.now (take c.args.count (texts c.args.symbols.now)) c.requires.order

pub returns-clause-later : goal.returns-clause-later
returns-clause-later c =
    let first = before_first c.args.slots.now (take c.args.count (texts c.args.symbols.now)) c.args.place c.requires.order c.requires.before in
    omega (arith, first, c.end_of.ensures.value)
