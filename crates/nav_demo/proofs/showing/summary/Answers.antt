-- The tree was committed and queried, and the replies added up.
use Rattle.std.proofs.Common.{ap}
use Rattle.nav_session.specs.Desks.{OnDesk, moment}
use Rattle.nav_demo.proofs.Asked.{summed}
use Rattle.nav_demo.proofs.showing.summary.Goals as goal

pub returns-clause-summary : goal.returns-clause-summary
returns-clause-summary g c =
    summed c.args.files c.args.start
    (moment (g.B.Pins.seat c.args.board.now) (g.B.Pins.log c.args.board.now) (g.B.Pins.pin_at c.args.board.now) c.new-desk.result)
    (moment (g.B.Pins.seat c.commit_all.new.board) (g.B.Pins.log c.commit_all.new.board) (g.B.Pins.pin_at c.commit_all.new.board) c.commit_all.new.desk)
    (moment (g.B.Pins.seat c.query_all.new.board) (g.B.Pins.log c.query_all.new.board) (g.B.Pins.pin_at c.query_all.new.board) c.query_all.new.desk)
    c.in_ok-totals.totals c.into_bytes.result.items (ap (λ (d : OnDesk). d.user) c.new-desk.ensures)
    c.in_ok-commit_all.ensures.goes_on c.in_ok-totals.ensures.goes_on c.in_ok-commit_all.ensures.answered c.in_ok-totals.ensures.answered
    (rw c.into_bytes.ensures.value c.in_ok-text.ensures)
