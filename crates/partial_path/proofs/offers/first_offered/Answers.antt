use Rattle.std.proofs.Common.{◌<◌, length, min, arith}
use Rattle.partial_path.proofs.Offered.{ask_more, first_asks, none_asks}
use Rattle.partial_path.proofs.offers.first_offered.Goals as goal

pub loop-count-init : goal.loop-count-init
loop-count-init c = λ k d within offered. omega arith

pub first_in_slot-requires-clause-count : goal.first_in_slot-requires-clause-count
first_in_slot-requires-clause-count c = omega (arith, c.loop-count-test.true, c.min-most.ensures)

pub returns-in-Some : goal.returns-in-Some
returns-in-Some c =
    first_asks c.args.start c.args.symbols.now c.args.paths.now c.loop-count.count c.in-Some.place (omega (arith, c.loop-count-test.true, c.min-most.ensures, c.len.ensures))
    c.in-Some.ensures c.loop-count.invariant

pub loop-count-preserved : goal.loop-count-preserved
loop-count-preserved c =
    ask_more c.args.start c.args.symbols.now c.args.paths.now c.loop-count.count (omega (arith, c.loop-count-test.true, c.min-most.ensures, c.len.ensures))
    c.in_default.ensures c.loop-count.invariant

pub returns : goal.returns
returns c =
    let past : min 6 (length c.args.symbols.now) < c.loop-count.count = omega (arith, c.loop-count-test.false, c.min-most.ensures, c.len.ensures) in
    none_asks c.args.start c.args.symbols.now c.args.paths.now c.loop-count.count past c.loop-count.invariant
