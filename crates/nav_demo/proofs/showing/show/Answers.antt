use Rattle.nav_demo.proofs.Shown.{wrote}
use Rattle.nav_demo.proofs.showing.show.Goals as goal

-- the line was made, and its writing went so
pub returns-clause-shown : goal.returns-clause-shown
returns-clause-shown g c =
    wrote (g.B.Pins.seat c.args.board.now) (g.B.Pins.log c.args.board.now) (g.B.Pins.log c.summary.new.board)
    (g.K.Sink.held c.args.sink.now) (g.K.Sink.held c.write_line.new.sink) c.args.files c.args.start c.in_ok-text.text.items c.write_line.result
    c.in_ok-text.ensures.begins c.in_ok-text.ensures.summary c.write_line.ensures.ok c.write_line.ensures.err
