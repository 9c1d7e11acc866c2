use Rattle.std.proofs.Common.{arith, ◌≤◌}
use Rattle.std.specs.Prelude.{slice_index}
use Rattle.partial_path.proofs.HeadOrders.{zone_begun, zone_up, zone_down}
use Rattle.partial_path.proofs.heads.zone_from.Goals as goal

pub returns-then-first-wanted-clause-less : goal.returns-then-first-wanted-clause-less
returns-then-first-wanted-clause-less c = λ k low below. absurd (omega (arith, low, below))

pub returns-then-first-wanted-clause-rest : goal.returns-then-first-wanted-clause-rest
returns-then-first-wanted-clause-rest c = λ k low below.
    let up : slice_index c.args.heads.now c.args.from ≤ slice_index c.args.heads.now k = c.requires.rise c.args.from k (omega arith) low below in
    omega (arith, up, c.if-first-wanted.true)

pub loop-low-init : goal.loop-low-init
loop-low-init c = zone_begun c.args.heads.now c.args.from c.args.high c.args.wanted c.requires.bounds.0 c.if-first-wanted.false

pub loop-low-preserved-then-head-wanted : goal.loop-low-preserved-then-head-wanted
loop-low-preserved-then-head-wanted c =
    zone_up c.args.heads.now c.args.from c.loop-low.low c.loop-low.end c.args.high c.args.wanted c.middle_of-middle.result c.requires.rise c.loop-low.invariant
    c.middle_of-middle.ensures.low c.middle_of-middle.ensures.high c.if-head-wanted.true

pub loop-low-preserved : goal.loop-low-preserved
loop-low-preserved c =
    zone_down c.args.heads.now c.args.from c.loop-low.low c.loop-low.end c.args.high c.args.wanted c.middle_of-middle.result c.requires.rise c.loop-low.invariant
    c.middle_of-middle.ensures.low c.middle_of-middle.ensures.high c.if-head-wanted.false

pub returns-clause-bounds : goal.returns-clause-bounds
returns-clause-bounds c =
    (c.loop-low.invariant.least, omega (arith, c.loop-low.invariant.order, c.loop-low.invariant.most))

pub returns-clause-less : goal.returns-clause-less
returns-clause-less c = c.loop-low.invariant.less

pub returns-clause-rest : goal.returns-clause-rest
returns-clause-rest c = λ k low below. c.loop-low.invariant.rest k (omega (arith, low, c.loop-low-test.false)) below
