use Rattle.std.proofs.Common.{◌≡◌, ◌≤◌, ◌∙◌, length, arith}
use Rattle.std.specs.Prelude.{slice_index}
use Rattle.partial_path.proofs.HeadOrders.{heads_rise}
use Rattle.partial_path.proofs.Offered.{next_behind, none_less, first_is_offered}
use Rattle.partial_path.proofs.offers.offered_in_run.Goals as goal

pub returns-then-from-high : goal.returns-then-from-high
returns-then-from-high c = λ k d low below. absurd (omega (arith, low, below, c.if-from-high.true))

pub returns-then-first-eq0 : goal.returns-then-first-eq0
returns-then-first-eq0 c =
    first_is_offered c.args.start c.args.symbols.now c.args.paths.now c.args.heads.now c.args.from c.args.high c.if-from-high.false c.requires.bound
    (c.requires.heads (c.if-count-size.false ∙ c.len-size.ensures)) c.requires.begin c.if-first-eq0.true

pub zone_from-place-requires-clause-bounds : goal.zone_from-place-requires-clause-bounds
zone_from-place-requires-clause-bounds c =
    let len : length c.args.heads.now ≡ length c.args.paths.now = c.if-count-size.false ∙ c.len-size.ensures in
    (c.if-from-high.false, omega (arith, len, c.requires.bound))

pub zone_from-place-requires-clause-rise : goal.zone_from-place-requires-clause-rise
zone_from-place-requires-clause-rise c =
    heads_rise c.args.paths.now c.args.start c.args.heads.now c.args.from c.args.high c.requires.order c.requires.bound c.requires.begin
    (c.requires.heads (c.if-count-size.false ∙ c.len-size.ensures))

pub offered_in_zone-requires-clause-len : goal.offered_in_zone-requires-clause-len
offered_in_zone-requires-clause-len c = c.if-count-size.false ∙ c.len-size.ensures

pub offered_in_zone-requires-clause-heads : goal.offered_in_zone-requires-clause-heads
offered_in_zone-requires-clause-heads c = c.requires.heads (c.if-count-size.false ∙ c.len-size.ensures)

pub offered_in_zone-requires-clause-begin : goal.offered_in_zone-requires-clause-begin
offered_in_zone-requires-clause-begin c = λ k d low below. c.requires.begin k d (omega (arith, c.zone_from-place.ensures.bounds.0, low)) below

pub offered_in_zone-requires-clause-some : goal.offered_in_zone-requires-clause-some
offered_in_zone-requires-clause-some c = λ k low below.
    let rise = heads_rise c.args.paths.now c.args.start c.args.heads.now c.args.from c.args.high c.requires.order c.requires.bound c.requires.begin
    (c.requires.heads (c.if-count-size.false ∙ c.len-size.ensures)) in
    let up : slice_index c.args.heads.now c.args.from ≤ slice_index c.args.heads.now k
    = rise c.args.from k (omega arith) (omega (arith, c.zone_from-place.ensures.bounds.0, low)) below in
    omega (arith, up, c.if-first-eq0.false)

pub returns : goal.returns
returns c =
    let rise = heads_rise c.args.paths.now c.args.start c.args.heads.now c.args.from c.args.high c.requires.order c.requires.bound c.requires.begin
    (c.requires.heads (c.if-count-size.false ∙ c.len-size.ensures)) in
    next_behind c.args.start c.args.symbols.now c.args.paths.now c.args.from c.zone_from-place.result c.args.high c.offered_in_zone.result c.zone_from-place.ensures.bounds.0
    (none_less c.args.start c.args.symbols.now c.args.paths.now c.args.heads.now c.args.from c.zone_from-place.result c.wanted_head-wanted.result
    (omega (arith, c.zone_from-place.ensures.bounds.1, c.requires.bound)) (c.requires.heads (c.if-count-size.false ∙ c.len-size.ensures)) c.wanted_head-wanted.ensures
    (λ k low below.
    let up : slice_index c.args.heads.now c.args.from ≤ slice_index c.args.heads.now k
    = rise c.args.from k (omega arith) low (omega (arith, below, c.zone_from-place.ensures.bounds.1)) in
    omega (arith, up, c.if-first-eq0.false))
    c.zone_from-place.ensures.less)
    c.offered_in_zone.ensures
