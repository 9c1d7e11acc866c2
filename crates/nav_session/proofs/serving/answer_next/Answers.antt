-- No line was left, or none could be read.
use Rattle.std.proofs.Common.{◌≡◌, ap, Err, None, subst, option_copied}
use Rattle.nav_session.specs.Desks.{moment_at}
use Rattle.nav_session.specs.Turns.{ReadsLine}
use Rattle.nav_session.proofs.Turned.{finds_end, stops_at}
use Rattle.nav_session.proofs.serving.answer_next.Goals as goal

pub returns-in-Ok-None-clause-turn : goal.returns-in-Ok-None-clause-turn
returns-in-Ok-None-clause-turn g c =
    let h = c.in-Ok-None.ensures in
    finds_end (option_copied c.in-Ok-None.field-0) (moment_at g.B.Pins c.args.board.now c.args.desk.now)
    c.args.reader.now c.next_line.follows.lender-at-none (g.S.Source.left c.args.source.now) (g.S.Source.left c.next_line.new.source)
    (ap option_copied c.in-Ok-None.field-0-is)
    (record {
      line = h.line;
      cut = h.cut;
      short = h.short;
      no_newline = h.no_newline;
      after = rw c.in-Ok-None.is at c.next_line.follows.holds-at-none;
    })

pub returns-in-Err-clause-turn : goal.returns-in-Err-clause-turn
returns-in-Err-clause-turn g c =
    stops_at c.from.result c.in-Err.error
    (moment_at g.B.Pins c.args.board.now c.args.desk.now)
    c.args.reader.now c.next_line.follows.lender-at-none (g.S.Source.left c.args.source.now) (g.S.Source.left c.next_line.new.source)
    c.from.ensures (rw c.in-Err.is at c.next_line.follows.holds-at-none) (λ e. c.in-Err.ensures.too_long (ap Err e))
