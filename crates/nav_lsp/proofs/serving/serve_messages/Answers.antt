-- Every way out of the loop, and its next turn.
use Rattle.std.proofs.Common.{◌≡◌, ◌<◌, refl, ap, arith, Ok, Err}
use Rattle.std.proofs.lemmas.Result.{err_from_is_err_and}
use Rattle.lsp_messages.specs.Inputs.{max_messages}
use Rattle.nav_lsp.specs.Editing.{is_shut}
use Rattle.nav_lsp.specs.Turns.{spot_at}
use Rattle.nav_lsp.proofs.Served.{serving_first, serves_nothing, no_entry, serves_to_end, serves_to_stop, serves_on, serves_to_exit, serves_to_write, serves_most, seat_still}
use Rattle.nav_lsp.proofs.serving.serve_messages.Goals as goal

pub returns-in_err-reader-clause-served : goal.returns-in_err-reader-clause-served
returns-in_err-reader-clause-served g c =
    let p = err_from_is_err_and c.from_residual.result c.from_residual.ensures.1 in
    serves_nothing c.from_residual.result _ (is_shut c.args.editor.now.phase) (g.B.Pins.seat c.args.board.now) (g.B.Pins.seat c.args.board.now)
    (g.B.Pins.log c.args.board.now) (g.B.Pins.log c.args.board.now) (g.S.Source.left c.args.source.now) (g.K.Sink.held c.args.sink.now)
    p.1 p.2 (no_entry (g.B.Pins.seat c.args.board.now) (g.B.Pins.log c.args.board.now))

pub returns-in_err-name_operator-clause-served : goal.returns-in_err-name_operator-clause-served
returns-in_err-name_operator-clause-served g c =
    let p = err_from_is_err_and c.from_residual-in_err-name_operator.result c.from_residual-in_err-name_operator.ensures.1 in
    serves_nothing c.from_residual-in_err-name_operator.result _ (is_shut c.name_operator.new.editor.phase) (g.B.Pins.seat c.args.board.now) (g.B.Pins.seat c.name_operator.new.board)
    (g.B.Pins.log c.args.board.now) (g.B.Pins.log c.name_operator.new.board) (g.S.Source.left c.args.source.now) (g.K.Sink.held c.args.sink.now)
    p.1 p.2 c.name_operator.ensures.stays

pub returns-in_err-name_operator-clause-seat : goal.returns-in_err-name_operator-clause-seat
returns-in_err-name_operator-clause-seat g c = c.name_operator.ensures.stays.goes_on.seat

pub loop-init : goal.loop-init
loop-init g c = record {
  serving = serving_first (g.B.Pins.seat c.args.board.now) (g.B.Pins.log c.args.board.now) (g.S.Source.left c.args.source.now) (g.K.Sink.held c.args.sink.now)
      (spot_at g.B.Pins c.name_operator.new.board c.name_operator.new.editor c.in_ok-reader.reader (g.S.Source.left c.args.source.now))
      c.name_operator.ensures.stays c.in_ok-name_operator.ensures.begins c.in_ok-reader.ensures.empty refl;
  source_count = omega arith;
  sink_count = omega arith;
}

pub answer_next-requires : goal.answer_next-requires
answer_next-requires g c = (search, (search, c.loop.invariant.serving.ready))

pub returns-in_err-turn-clause-served : goal.returns-in_err-turn-clause-served
returns-in_err-turn-clause-served g c =
    let p = err_from_is_err_and c.from_residual-in_err-turn.result c.from_residual-in_err-turn.ensures.1 in
    let within : c.loop.counter < max_messages = omega (arith, c.loop-test.true) in
    serves_to_stop c.from_residual-in_err-turn.result c.in_err-turn.field-0.0 (is_shut c.answer_next.new.editor.phase) c.loop.counter
    (g.B.Pins.seat c.args.board.now) (g.B.Pins.log c.args.board.now) (g.S.Source.left c.args.source.now) (g.K.Sink.held c.args.sink.now)
    (spot_at g.B.Pins c.loop.board c.loop.editor c.loop.reader (g.S.Source.left c.loop.source))
    (spot_at g.B.Pins c.answer_next.new.board c.answer_next.new.editor c.answer_next.new.reader (g.S.Source.left c.answer_next.new.source))
    (g.K.Sink.held c.loop.sink)
    (cc (p.1, p.2)) c.loop.invariant.serving within c.in_err-turn.ensures.turn

pub returns-in_err-turn-clause-seat : goal.returns-in_err-turn-clause-seat
returns-in_err-turn-clause-seat g c =
    seat_still (g.B.Pins.seat c.args.board.now) (g.B.Pins.seat c.loop.board) (g.B.Pins.seat c.answer_next.new.board)
    c.in_err-turn.ensures.turn.stays.goes_on.seat c.loop.invariant.serving.same_seat

pub returns-in_default-clause-served : goal.returns-in_default-clause-served
returns-in_default-clause-served g c =
    let within : c.loop.counter < max_messages = omega (arith, c.loop-test.true) in
    serves_to_end c.loop.counter (g.B.Pins.seat c.args.board.now) (g.B.Pins.log c.args.board.now) (g.S.Source.left c.args.source.now) (g.K.Sink.held c.args.sink.now)
    (spot_at g.B.Pins c.loop.board c.loop.editor c.loop.reader (g.S.Source.left c.loop.source))
    (spot_at g.B.Pins c.answer_next.new.board c.answer_next.new.editor c.answer_next.new.reader (g.S.Source.left c.answer_next.new.source))
    (g.K.Sink.held c.loop.sink)
    c.loop.invariant.serving within (rw c.in_default.is at c.in_ok-turn.ensures.turn)

pub returns-in_default-clause-seat : goal.returns-in_default-clause-seat
returns-in_default-clause-seat g c =
    let f = rw c.in_default.is at c.in_ok-turn.ensures.turn in
    seat_still (g.B.Pins.seat c.args.board.now) (g.B.Pins.seat c.loop.board) (g.B.Pins.seat c.answer_next.new.board)
    f.stays.goes_on.seat c.loop.invariant.serving.same_seat

pub returns-in_err-write_reply-clause-served : goal.returns-in_err-write_reply-clause-served
returns-in_err-write_reply-clause-served g c =
    let p = err_from_is_err_and c.from_residual-in_err-write_reply.result c.from_residual-in_err-write_reply.ensures.1 in
    let within : c.loop.counter < max_messages = omega (arith, c.loop-test.true) in
    let w = c.in_err-write_reply.ensures in
    serves_to_write c.from_residual-in_err-write_reply.result c.in_err-write_reply.field-0.0 (is_shut c.answer_next.new.editor.phase) c.loop.counter
    (g.B.Pins.seat c.args.board.now) (g.B.Pins.log c.args.board.now) (g.S.Source.left c.args.source.now) (g.K.Sink.held c.args.sink.now)
    (spot_at g.B.Pins c.loop.board c.loop.editor c.loop.reader (g.S.Source.left c.loop.source))
    (spot_at g.B.Pins c.answer_next.new.board c.answer_next.new.editor c.answer_next.new.reader (g.S.Source.left c.answer_next.new.source))
    (g.K.Sink.held c.loop.sink) (g.K.Sink.held c.write_reply.new.sink) c.in-Some.step
    (cc (p.1, p.2)) c.loop.invariant.serving within (rw c.in-Some.is at c.in_ok-turn.ensures.turn)
    w.err (λ e. w.not_source (ap Err e)) (λ e. w.not_large (ap Err e)) (λ e. w.not_broken (ap Err e))

pub returns-in_err-write_reply-clause-seat : goal.returns-in_err-write_reply-clause-seat
returns-in_err-write_reply-clause-seat g c =
    let a = rw c.in-Some.is at c.in_ok-turn.ensures.turn in
    seat_still (g.B.Pins.seat c.args.board.now) (g.B.Pins.seat c.loop.board) (g.B.Pins.seat c.answer_next.new.board)
    a.goes_on.seat c.loop.invariant.serving.same_seat

pub returns-then-exit-clause-served : goal.returns-then-exit-clause-served
returns-then-exit-clause-served g c =
    let within : c.loop.counter < max_messages = omega (arith, c.loop-test.true) in
    serves_to_exit c.loop.counter (g.B.Pins.seat c.args.board.now) (g.B.Pins.log c.args.board.now) (g.S.Source.left c.args.source.now) (g.K.Sink.held c.args.sink.now)
    (spot_at g.B.Pins c.loop.board c.loop.editor c.loop.reader (g.S.Source.left c.loop.source))
    (spot_at g.B.Pins c.answer_next.new.board c.answer_next.new.editor c.answer_next.new.reader (g.S.Source.left c.answer_next.new.source))
    (g.K.Sink.held c.loop.sink) (g.K.Sink.held c.write_reply.new.sink) c.in-Some.step
    c.loop.invariant.serving within (rw c.in-Some.is at c.in_ok-turn.ensures.turn) c.if-exit.true c.in_ok-write_reply.ensures.ok

pub returns-then-exit-clause-seat : goal.returns-then-exit-clause-seat
returns-then-exit-clause-seat g c =
    let a = rw c.in-Some.is at c.in_ok-turn.ensures.turn in
    seat_still (g.B.Pins.seat c.args.board.now) (g.B.Pins.seat c.loop.board) (g.B.Pins.seat c.answer_next.new.board)
    a.goes_on.seat c.loop.invariant.serving.same_seat

pub loop-preserved : goal.loop-preserved
loop-preserved g c = record {
  serving = serves_on c.loop.counter (g.B.Pins.seat c.args.board.now) (g.B.Pins.log c.args.board.now) (g.S.Source.left c.args.source.now) (g.K.Sink.held c.args.sink.now)
      (spot_at g.B.Pins c.loop.board c.loop.editor c.loop.reader (g.S.Source.left c.loop.source))
      (spot_at g.B.Pins c.answer_next.new.board c.answer_next.new.editor c.answer_next.new.reader (g.S.Source.left c.answer_next.new.source))
      (g.K.Sink.held c.loop.sink) (g.K.Sink.held c.write_reply.new.sink) c.in-Some.step
      c.loop.invariant.serving (rw c.in-Some.is at c.in_ok-turn.ensures.turn) c.if-exit.false c.in_ok-write_reply.ensures.ok;
  source_count = omega (arith, c.loop.invariant.source_count, c.answer_next.ensures.count);
  sink_count = omega (arith, c.loop.invariant.sink_count, c.write_reply.ensures.count);
}

pub returns-in_err-more-clause-served : goal.returns-in_err-more-clause-served
returns-in_err-more-clause-served g c =
    let p = err_from_is_err_and c.from_residual-in_err-more.result c.from_residual-in_err-more.ensures.1 in
    let full : c.loop.counter ≡ max_messages = omega (arith, c.loop-test.false, c.loop.auto.counter-end) in
    serves_most (Err c.in_err-more.field-0.0) c.from_residual-in_err-more.result (is_shut c.loop.editor.phase) c.loop.counter
    (g.B.Pins.seat c.args.board.now) (g.B.Pins.log c.args.board.now) (g.S.Source.left c.args.source.now) (g.K.Sink.held c.args.sink.now)
    (spot_at g.B.Pins c.loop.board c.loop.editor c.loop.reader (g.S.Source.left c.loop.source))
    c.look_on.new.reader (g.S.Source.left c.look_on.new.source) (g.K.Sink.held c.loop.sink)
    (cc (p.1, p.2)) full c.loop.invariant.serving c.in_err-more.ensures.looks

pub returns-in_err-more-clause-seat : goal.returns-in_err-more-clause-seat
returns-in_err-more-clause-seat g c = c.loop.invariant.serving.same_seat

pub returns-clause-served : goal.returns-clause-served
returns-clause-served g c =
    let full : c.loop.counter ≡ max_messages = omega (arith, c.loop-test.false, c.loop.auto.counter-end) in
    serves_most (Ok c.in_ok-more.more) _ (is_shut c.loop.editor.phase) c.loop.counter
    (g.B.Pins.seat c.args.board.now) (g.B.Pins.log c.args.board.now) (g.S.Source.left c.args.source.now) (g.K.Sink.held c.args.sink.now)
    (spot_at g.B.Pins c.loop.board c.loop.editor c.loop.reader (g.S.Source.left c.loop.source))
    c.look_on.new.reader (g.S.Source.left c.look_on.new.source) (g.K.Sink.held c.loop.sink)
    (ap Ok c.end_before.ensures) full c.loop.invariant.serving c.in_ok-more.ensures.looks

pub returns-clause-seat : goal.returns-clause-seat
returns-clause-seat g c = c.loop.invariant.serving.same_seat
