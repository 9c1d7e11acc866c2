use Rattle.nav_demo.proofs.Shown.{shown_all}
use Rattle.nav_demo.proofs.showing.demo.Goals as goal

-- the line was written
pub returns-in-Ok-clause-demonstrates : goal.returns-in-Ok-clause-demonstrates
returns-in-Ok-clause-demonstrates g c =
    shown_all (g.B.Pins.seat c.args.board.now) (g.B.Pins.log c.args.board.now) (g.B.Pins.log c.show.new.board)
    (g.K.Sink.held c.args.sink.now) (g.K.Sink.held c.show.new.sink) c.args.files c.args.start
    c.in-Ok.ensures.shown.begins c.in-Ok.ensures.shown.ok
