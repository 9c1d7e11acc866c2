-- One file is asked for after the other.
use Rattle.nav_session.specs.Desks.{moment}
use Rattle.nav_session.proofs.CallerLemmas.{goes_further}
use Rattle.nav_demo.proofs.Asked.{goes_nowhere, totalled_first, totalled_more}
use Rattle.nav_demo.proofs.session.query_all.Goals as goal

pub loop-k-init : goal.loop-k-init
loop-k-init g c = record {
  goes_on = goes_nowhere (moment (g.B.Pins.seat c.args.board.now) (g.B.Pins.log c.args.board.now) (g.B.Pins.pin_at c.args.board.now) c.args.desk.now);
  answered = totalled_first c.args.files c.nothing-totals.result
      (moment (g.B.Pins.seat c.args.board.now) (g.B.Pins.log c.args.board.now) (g.B.Pins.pin_at c.args.board.now) c.args.desk.now)
      c.requires.view c.nothing-totals.ensures;
}

pub loop-k-preserved : goal.loop-k-preserved
loop-k-preserved g c =
    let i = c.loop-k.invariant in
    record {
      goes_on = goes_further
          (moment (g.B.Pins.seat c.args.board.now) (g.B.Pins.log c.args.board.now) (g.B.Pins.pin_at c.args.board.now) c.args.desk.now)
          (moment (g.B.Pins.seat c.loop-k.board) (g.B.Pins.log c.loop-k.board) (g.B.Pins.pin_at c.loop-k.board) c.loop-k.desk)
          (moment (g.B.Pins.seat c.reply_to.new.board) (g.B.Pins.log c.reply_to.new.board) (g.B.Pins.pin_at c.reply_to.new.board) c.reply_to.new.desk)
          i.goes_on c.in_ok-reply.ensures.goes_on;
      answered = totalled_more c.args.files c.loop-k.k c.in_ok-request.request c.in_ok-reply.reply c.loop-k.totals c.in_ok-totals.totals
          (moment (g.B.Pins.seat c.args.board.now) (g.B.Pins.log c.args.board.now) (g.B.Pins.pin_at c.args.board.now) c.args.desk.now)
          (moment (g.B.Pins.seat c.loop-k.board) (g.B.Pins.log c.loop-k.board) (g.B.Pins.pin_at c.loop-k.board) c.loop-k.desk)
          (moment (g.B.Pins.seat c.reply_to.new.board) (g.B.Pins.log c.reply_to.new.board) (g.B.Pins.pin_at c.reply_to.new.board) c.reply_to.new.desk)
          i.answered c.in_ok-totals.ensures i.goes_on c.in_ok-reply.ensures.goes_on c.in_ok-request.ensures c.in_ok-reply.ensures.reply;
    }
