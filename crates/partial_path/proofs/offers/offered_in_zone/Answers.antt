use Rattle.std.proofs.Common.{◌≤◌, ◌+◌, sym, ◌∙◌, None, arith}
use Rattle.std.specs.Prelude.{slice_index}
use Rattle.partial_path.proofs.HeadOrders.{heads_rise}
use Rattle.partial_path.proofs.Offered.{next_behind, none_more, this_is_offered, this_is_not}
use Rattle.partial_path.proofs.offers.offered_in_zone.Goals as goal

pub loop-place-init : goal.loop-place-init
loop-place-init c = λ k d low below. absurd (omega (arith, low, below))

-- the head is another one
pub returns-then-head-wanted : goal.returns-then-head-wanted
returns-then-head-wanted c =
    let rise = heads_rise c.args.paths.now c.args.start c.args.heads.now c.args.from c.args.high c.requires.order c.requires.bounds.1 c.requires.begin c.requires.heads in
    let here : c.args.from ≤ c.loop-place.place = omega (arith, c.loop-place.auto.place) in
    let least : c.args.wanted ≤ slice_index c.args.heads.now c.loop-place.place
    = c.requires.least c.loop-place.place here (omega (arith, c.loop-place-test.true, c.min-near.ensures, c.requires.bounds.0)) in
    next_behind c.args.start c.args.symbols.now c.args.paths.now c.args.from c.loop-place.place c.args.high None here c.loop-place.invariant
    (none_more c.args.start c.args.symbols.now c.args.paths.now c.args.heads.now c.loop-place.place c.args.high c.args.wanted c.requires.bounds.1 c.requires.heads c.requires.wanted
    (λ i j low le below. rise i j (omega (arith, here, low)) le below)
    (c.requires.some c.loop-place.place here (omega (arith, c.loop-place-test.true, c.min-near.ensures, c.requires.bounds.0)))
    (omega (arith, least, c.if-head-wanted.true)))

-- the path is offered
pub returns-then-stands_first : goal.returns-then-stands_first
returns-then-stands_first c =
    this_is_offered c.args.start c.args.symbols.now c.args.paths.now c.args.from c.args.high c.loop-place.place c.at.result (omega (arith, c.loop-place.auto.place))
    (omega (arith, c.loop-place-test.true, c.min-near.ensures, c.requires.bounds.0)) c.requires.bounds.1 c.requires.begin c.loop-place.invariant c.at.ensures.is
    (sym c.stands_first.ensures ∙ c.if-stands_first.true)

-- it isn't
pub loop-place-preserved : goal.loop-place-preserved
loop-place-preserved c =
    this_is_not c.args.start c.args.symbols.now c.args.paths.now c.args.from c.loop-place.place c.at.result
    (omega (arith, c.loop-place-test.true, c.min-near.ensures, c.requires.bounds.0, c.requires.bounds.1)) c.loop-place.invariant c.at.ensures.is
    (sym c.stands_first.ensures ∙ c.if-stands_first.false)

pub offered_between-requires-clause-bounds : goal.offered_between-requires-clause-bounds
offered_between-requires-clause-bounds c = (omega (arith, c.min-near.ensures, c.requires.bounds.0), c.requires.bounds.1)

pub returns : goal.returns
returns c =
    next_behind c.args.start c.args.symbols.now c.args.paths.now c.args.from (c.args.from + c.min-near.result) c.args.high c.offered_between.result (omega arith)
    (λ k d low below. c.loop-place.invariant k d low (omega (arith, below, c.loop-place-test.false))) c.offered_between.ensures
