use Rattle.std.proofs.Common.{◌<◌, ◌-◌, length, get_or, slice_set, arith}
use Rattle.std.proofs.lemmas.Option.{slice_get-get_or}
use Rattle.shared_board.proofs.Passed.{have_trans, have_set, passed_more, passed_all}
use Rattle.shared_board.proofs.tying.passed_on.Goals as goal

pub returns-then-not-learnt-clause-learnt : goal.returns-then-not-learnt-clause-learnt
returns-then-not-learnt-clause-learnt g c =
    let less : c.loop-n.n < length c.loop-n.seats = omega (arith, c.loop-n-test.true, c.loop-n.auto.seats) in
    have_trans c.args.seats.now c.loop-n.seats (slice_set c.loop-n.seats c.loop-n.n c.learnt.new.self) c.loop-n.invariant.learnt
    (have_set c.loop-n.seats c.loop-n.n (get_or c.loop-n.seats c.loop-n.n c.index-seats-n-in-loop-n.result) c.learnt.new.self
    (slice_get-get_or c.loop-n.seats c.loop-n.n c.index-seats-n-in-loop-n.result less) c.learnt.ensures.learnt)

-- what the seat before had seen begins its note, with which what this one has seen begins
pub loop-n-preserved : goal.loop-n-preserved
loop-n-preserved g c =
    let less : c.loop-n.n < length c.loop-n.seats = omega (arith, c.loop-n-test.true, c.loop-n.auto.seats) in
    let before : c.loop-n.n - 1 < length c.loop-n.seats = omega (arith, less) in
    passed_more c.loop-n.n c.args.seats.now c.loop-n.seats (get_or c.loop-n.seats (c.loop-n.n - 1) c.index-seats-n.result) c.in_ok-note.note
    (get_or c.loop-n.seats c.loop-n.n c.index-seats-n-in-loop-n.result) c.learnt.new.self c.loop-n.invariant
    (slice_get-get_or c.loop-n.seats (c.loop-n.n - 1) c.index-seats-n.result before) c.in_ok-note.ensures
    (slice_get-get_or c.loop-n.seats c.loop-n.n c.index-seats-n-in-loop-n.result less) c.learnt.ensures.learnt (c.learnt.ensures.theirs c.if-not-learnt.false)

pub returns-clause-begin : goal.returns-clause-begin
returns-clause-begin g c _ =
    passed_all c.loop-n.n c.args.seats.now c.loop-n.seats c.loop-n.invariant
    (λ some. let most = c.loop-n.auto.n-end (omega (arith, some, c.loop-n.auto.seats)) in omega (arith, most, c.loop-n-test.false, c.loop-n.auto.seats))
