-- Every way out of the loop, and its next turn.
use Rattle.std.proofs.Common.{◌≡◌, ◌<◌, ◌∙◌, sym, ap, arith, Err}
use Rattle.std.proofs.lemmas.Result.{err_from_is_err_and}
use Rattle.nav_session.specs.Desks.{moment_at}
use Rattle.nav_session.specs.Transcripts.{max_lines}
use Rattle.nav_session.specs.Turns.{spot}
use Rattle.nav_session.proofs.Keeping.{at_desk, passes_first, passes_turn, ends_with_input, goes_on_at, ends_with_quit, passes_write, looks_round}
use Rattle.nav_session.proofs.serving.serve_lines.Goals as goal

pub returns-in_err-reader-clause-served : goal.returns-in_err-reader-clause-served
returns-in_err-reader-clause-served g c =
    let p = err_from_is_err_and c.from_residual.result c.from_residual.ensures.1 in
    passes_first c.from_residual.result
    (moment_at g.B.Pins c.args.board.now c.args.desk.now)
    (g.S.Source.left c.args.source.now) (g.K.Sink.held c.args.sink.now) c.requires.nobody c.requires.no_view
    (p.1 ∙ ap Err p.2)

pub loop-init : goal.loop-init
loop-init g c = record {
  under_way = at_desk (moment_at g.B.Pins c.args.board.now c.args.desk.now)
      c.in_ok-reader.reader (g.S.Source.left c.args.source.now) (g.K.Sink.held c.args.sink.now) c.in_ok-reader.ensures.empty c.requires.nobody c.requires.no_view;
  source_count = omega arith;
  sink_count = omega arith;
}

pub answer_next-requires : goal.answer_next-requires
answer_next-requires g c = (search, (search, c.loop.invariant.under_way.under_way.view))

pub returns-in_err-turn-clause-served : goal.returns-in_err-turn-clause-served
returns-in_err-turn-clause-served g c =
    let p = err_from_is_err_and c.from_residual-in_err-turn.result c.from_residual-in_err-turn.ensures.1 in
    let within : c.loop.counter < max_lines = omega (arith, c.loop-test.true) in
    passes_turn c.from_residual-in_err-turn.result c.in_err-turn.field-0.0 c.loop.counter (g.B.Pins.seat c.args.board.now) (g.B.Pins.log c.args.board.now) c.args.desk.now (g.S.Source.left c.args.source.now) (g.K.Sink.held c.args.sink.now)
    (g.K.Sink.held c.loop.sink)
    (spot (moment_at g.B.Pins c.loop.board c.loop.desk) c.loop.reader (g.S.Source.left c.loop.source))
    (spot (moment_at g.B.Pins c.answer_next.new.board c.answer_next.new.desk) c.answer_next.new.reader (g.S.Source.left c.answer_next.new.source))
    (cc (p.1, p.2, c.in_err-turn.was)) c.loop.invariant.under_way within c.in_err-turn.ensures.turn c.in_err-turn.ensures.store

pub returns-in_err-turn-clause-seat : goal.returns-in_err-turn-clause-seat
returns-in_err-turn-clause-seat g c = c.in_err-turn.ensures.turn.stays.goes_on.seat ∙ c.loop.invariant.under_way.under_way.same_seat

pub returns-in_default-clause-served : goal.returns-in_default-clause-served
returns-in_default-clause-served g c =
    let within : c.loop.counter < max_lines = omega (arith, c.loop-test.true) in
    ends_with_input c.loop.counter (g.B.Pins.seat c.args.board.now) (g.B.Pins.log c.args.board.now) c.args.desk.now (g.S.Source.left c.args.source.now) (g.K.Sink.held c.args.sink.now)
    (g.K.Sink.held c.loop.sink)
    (spot (moment_at g.B.Pins c.loop.board c.loop.desk) c.loop.reader (g.S.Source.left c.loop.source))
    (spot (moment_at g.B.Pins c.answer_next.new.board c.answer_next.new.desk) c.answer_next.new.reader (g.S.Source.left c.answer_next.new.source))
    c.loop.invariant.under_way (omega (arith, within)) (rw c.in_default.is at c.in_ok-turn.ensures.turn) (rw c.in_default.is at c.in_ok-turn.ensures.store)

pub returns-in_default-clause-seat : goal.returns-in_default-clause-seat
returns-in_default-clause-seat g c =
    let f = rw c.in_default.is at c.in_ok-turn.ensures.turn in
    f.stays.goes_on.seat ∙ c.loop.invariant.under_way.under_way.same_seat

pub returns-in_err-write_reply-clause-served : goal.returns-in_err-write_reply-clause-served
returns-in_err-write_reply-clause-served g c =
    let p = err_from_is_err_and c.from_residual-in_err-write_reply.result c.from_residual-in_err-write_reply.ensures.1 in
    let within : c.loop.counter < max_lines = omega (arith, c.loop-test.true) in
    let w = c.in_err-write_reply.ensures in
    passes_write c.from_residual-in_err-write_reply.result c.in_err-write_reply.field-0.0 c.loop.counter (g.B.Pins.seat c.args.board.now) (g.B.Pins.log c.args.board.now) c.args.desk.now (g.S.Source.left c.args.source.now) (g.K.Sink.held c.args.sink.now)
    (g.K.Sink.held c.loop.sink) (g.K.Sink.held c.write_reply.new.sink)
    (spot (moment_at g.B.Pins c.loop.board c.loop.desk) c.loop.reader (g.S.Source.left c.loop.source))
    (spot (moment_at g.B.Pins c.answer_next.new.board c.answer_next.new.desk) c.answer_next.new.reader (g.S.Source.left c.answer_next.new.source))
    c.in-Some.step
    (cc (p.1, p.2, c.in_err-write_reply.was)) c.loop.invariant.under_way (rw c.in-Some.is at c.in_ok-turn.ensures.turn) within
    w.err (λ e. w.not_source (ap Err e)) (λ e. w.not_long (ap Err e))

pub returns-in_err-write_reply-clause-seat : goal.returns-in_err-write_reply-clause-seat
returns-in_err-write_reply-clause-seat g c =
    let a = rw c.in-Some.is at c.in_ok-turn.ensures.turn in
    a.goes_on.seat ∙ c.loop.invariant.under_way.under_way.same_seat

pub returns-then-quit-clause-served : goal.returns-then-quit-clause-served
returns-then-quit-clause-served g c =
    let within : c.loop.counter < max_lines = omega (arith, c.loop-test.true) in
    ends_with_quit c.loop.counter (g.B.Pins.seat c.args.board.now) (g.B.Pins.log c.args.board.now) c.args.desk.now (g.S.Source.left c.args.source.now) (g.K.Sink.held c.args.sink.now)
    (g.K.Sink.held c.loop.sink) (g.K.Sink.held c.write_reply.new.sink)
    (spot (moment_at g.B.Pins c.loop.board c.loop.desk) c.loop.reader (g.S.Source.left c.loop.source))
    (spot (moment_at g.B.Pins c.answer_next.new.board c.answer_next.new.desk) c.answer_next.new.reader (g.S.Source.left c.answer_next.new.source))
    c.in-Some.step
    c.loop.invariant.under_way (rw c.in-Some.is at c.in_ok-turn.ensures.turn) within
    c.if-quit.true c.in_ok-write_reply.ensures.ok

pub returns-then-quit-clause-seat : goal.returns-then-quit-clause-seat
returns-then-quit-clause-seat g c =
    let a = rw c.in-Some.is at c.in_ok-turn.ensures.turn in
    a.goes_on.seat ∙ c.loop.invariant.under_way.under_way.same_seat

pub loop-preserved : goal.loop-preserved
loop-preserved g c = record {
  under_way = goes_on_at c.loop.counter (g.B.Pins.seat c.args.board.now) (g.B.Pins.log c.args.board.now) c.args.desk.now (g.S.Source.left c.args.source.now) (g.K.Sink.held c.args.sink.now)
      (g.K.Sink.held c.loop.sink) (g.K.Sink.held c.write_reply.new.sink)
      (spot (moment_at g.B.Pins c.loop.board c.loop.desk) c.loop.reader (g.S.Source.left c.loop.source))
      (spot (moment_at g.B.Pins c.answer_next.new.board c.answer_next.new.desk) c.answer_next.new.reader (g.S.Source.left c.answer_next.new.source))
      c.in-Some.step
      c.loop.invariant.under_way (rw c.in-Some.is at c.in_ok-turn.ensures.turn)
      c.if-quit.false c.in_ok-write_reply.ensures.ok;
  source_count = omega (arith, c.loop.invariant.source_count, c.answer_next.ensures.count);
  sink_count = omega (arith, c.loop.invariant.sink_count, c.write_reply.ensures.count);
}

pub returns-clause-served : goal.returns-clause-served
returns-clause-served g c =
    let full : c.loop.counter ≡ max_lines = omega (arith, c.loop-test.false, c.loop.auto.counter-end) in
    looks_round c.look_on.result
    (moment_at g.B.Pins c.loop.board c.loop.desk)
    c.look_on.new.reader (g.S.Source.left c.look_on.new.source)
    c.loop.counter (g.B.Pins.seat c.args.board.now) (g.B.Pins.log c.args.board.now) c.args.desk.now (g.S.Source.left c.args.source.now) (g.K.Sink.held c.args.sink.now)
    (g.K.Sink.held c.loop.sink) c.loop.reader (g.S.Source.left c.loop.source)
    c.loop.invariant.under_way full c.look_on.ensures.looks

pub returns-clause-seat : goal.returns-clause-seat
returns-clause-seat g c = c.loop.invariant.under_way.under_way.same_seat
