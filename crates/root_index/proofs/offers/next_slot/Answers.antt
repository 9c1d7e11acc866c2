use Rattle.std.proofs.Common.{◌∙◌, ap, sym, arith, ◌∷◌}
use Rattle.root_index.proofs.PassedOver.{passed_over, none_behind, comes_next, none_left}
use Rattle.root_index.proofs.offers.next_slot.Goals as goal

pub returns-in-Asks-clause-next : goal.returns-in-Asks-clause-next
returns-in-Asks-clause-next c =
    c.loop-here.invariant
    ∙ comes_next c.args.slots.now c.args.symbols.now c.loop-here.here.place c.at-near.result.0.now c.at-near.ensures
    c.in-Asks.ensures
    ∙ ap (λ r. c.at-near.result.0.now ∷ r) (sym (c.behind.ensures c.args.symbols.now c.in-Asks.ensures))

pub returns-in-Behind-clause-next : goal.returns-in-Behind-clause-next
returns-in-Behind-clause-next c =
    c.loop-here.invariant
    ∙ none_behind c.args.slots.now c.args.symbols.now c.loop-here.here.place c.min-most.result c.at-near.result.0.now c.requires c.at-near.ensures
    c.in-Behind.ensures
    (omega (arith, c.min-most.ensures, c.len.ensures))

pub loop-here-preserved : goal.loop-here-preserved
loop-here-preserved c =
    c.loop-here.invariant
    ∙ passed_over c.args.slots.now c.args.symbols.now c.in-Before.count c.loop-here.here.place c.passed-here.result.place c.at-near.result.0.now c.requires c.at-near.ensures
    c.in-Before.ensures.1
    c.passed-here.ensures.later c.passed-here.ensures.passed

pub returns-clause-next : goal.returns-clause-next
returns-clause-next c = c.loop-here.invariant ∙ none_left c.args.slots.now c.args.symbols.now c.loop-here.here.place (omega (arith, c.loop-here-test.false, c.len-all.ensures))
