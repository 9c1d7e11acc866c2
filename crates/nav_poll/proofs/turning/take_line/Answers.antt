-- The line in front is the next one.
use Rattle.std.proofs.Common.{◌≡◌, ◌∙◌, sym, ap, subst, Some, Err, option_copied}
use Rattle.std.proofs.lemmas.Result.{err_from_is_err_and}
use Rattle.nav_io.specs.Reading.{whole_line}
use Rattle.nav_session.specs.Desks.{moment}
use Rattle.nav_session.specs.Turns.{spot}
use Rattle.nav_poll.specs.Turns.{TakesLine}
use Rattle.nav_poll.proofs.Lines.{reads_front, stops_memory, stops_long}
use Rattle.nav_poll.proofs.turning.take_line.Goals as goal

pub returns-in_err-answer_line-in-Ok-Some-clause-takes : goal.returns-in_err-answer_line-in-Ok-Some-clause-takes
returns-in_err-answer_line-in-Ok-Some-clause-takes g c left =
    let p = err_from_is_err_and c.from_residual.result c.from_residual.ensures.1 in
    let old = moment (g.B.Pins.seat c.args.board.now) (g.B.Pins.log c.args.board.now) (g.B.Pins.pin_at c.args.board.now) c.args.desk.now in
    let new = moment (g.B.Pins.seat c.answer_line.new.board) (g.B.Pins.log c.answer_line.new.board) (g.B.Pins.pin_at c.answer_line.new.board) c.answer_line.new.desk in
    let line : Some c.in-Ok-Some.line.now ≡ whole_line c.args.reader.now = sym (ap option_copied c.in-Ok-Some.field-0-is) ∙ c.in-Ok-Some.ensures.line in
    subst (λ r. TakesLine (spot old c.args.reader.now left) (spot new c.whole_line.follows.lender-at-none left) r) (sym (p.1 ∙ ap Err p.2))
    (stops_memory old new c.args.reader.now c.whole_line.follows.lender-at-none left c.in-Ok-Some.line.now line
    (rw c.in-Ok-Some.is at c.whole_line.follows.holds-at-none) c.in-Ok-Some.ensures.short
    c.answer_line.ensures.goes_on c.in_err-answer_line-in-Ok-Some.ensures.none.no_entry)

pub returns-in_ok-answer_line-in-Ok-Some-clause-takes : goal.returns-in_ok-answer_line-in-Ok-Some-clause-takes
returns-in_ok-answer_line-in-Ok-Some-clause-takes g c left =
    let past = rw c.in-Ok-Some.is at c.whole_line.follows.holds-at-none in
    let line : Some c.in-Ok-Some.line.now ≡ whole_line c.args.reader.now = sym (ap option_copied c.in-Ok-Some.field-0-is) ∙ c.in-Ok-Some.ensures.line in
    let answered = c.in_ok-answer_line-in-Ok-Some.ensures in (
      record {
        line = c.in-Ok-Some.line.now;
        read = reads_front c.args.reader.now c.whole_line.follows.lender-at-none left c.in-Ok-Some.line.now line past c.in-Ok-Some.ensures.short;
        goes_on = c.answer_line.ensures.goes_on;
        answers = answered.reply;
        quit = answered.quit;
      },
      ap (λ r. r.ended) past,
    )

pub returns-in-Err-clause-takes : goal.returns-in-Err-clause-takes
returns-in-Err-clause-takes g c left =
    stops_long (moment (g.B.Pins.seat c.args.board.now) (g.B.Pins.log c.args.board.now) (g.B.Pins.pin_at c.args.board.now) c.args.desk.now)
    c.args.reader.now c.whole_line.follows.lender-at-none left (rw c.in-Err.is at c.whole_line.follows.holds-at-none) c.in-Err.ensures.too_long
