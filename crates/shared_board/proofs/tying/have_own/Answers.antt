use Rattle.std.proofs.Common.{refl, sym, length}
use Rattle.std.proofs.lemmas.Option.{slice_get_read}
use Rattle.shared_board.proofs.Passed.{agree_more, agree_all}
use Rattle.shared_board.proofs.tying.have_own.Goals as goal

pub loop-seat-preserved : goal.loop-seat-preserved
loop-seat-preserved g c =
    agree_more g.J.Naming.board.seats c.args.seats.now c.in-Some.last.now.log c.loop-seat.seat-index c.name-name.result c.count-in-loop-seat.result c.count-in-loop-seat-2.result c.seat-item.result c.requires c.loop-seat.invariant
    (slice_get_read c.args.seats.now (length c.args.seats.now) c.loop-seat.seat-index c.seat-item.result refl c.loop-seat-test.true c.seat-item.is)
    c.name-name.ensures.name c.count-in-loop-seat.ensures.count c.count-in-loop-seat-2.ensures.count c.if-count.false

pub returns : goal.returns
returns g c _ =
    agree_all g.J.Naming.board.seats c.args.seats.now c.in-Some.last.now c.loop-seat.seat-index c.requires (sym c.in-Some.ensures.value) c.loop-seat-test.false c.loop-seat.invariant
    c.count.ensures.others
