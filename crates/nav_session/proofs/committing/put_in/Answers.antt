use Rattle.std.proofs.Common.{◌∙◌}
use Rattle.nav_session.proofs.Committed.{swept_after}
use Rattle.nav_session.proofs.committing.put_in.Goals as goal

pub returns-clause-put : goal.returns-clause-put
returns-clause-put g c =
    swept_after (g.B.Pins.seat c.args.board.now) (g.B.Pins.seat c.judge.new.board) (g.B.Pins.log c.args.board.now) (g.B.Pins.log c.judge.new.board)
    (g.B.Pins.pin_at c.args.board.now) (g.B.Pins.pin_at c.judge.new.board) c.args.desk.now c.judge.new.desk c.list_ends.new.self c.args.base _ _ c.in_ok-reply.reply
    (c.deref.ensures.value ∙ c.in_ok-edits.ensures) c.in_ok-reply.ensures.judged c.in_ok-reply.ensures.no_entry c.in_ok-reply.ensures.indexed
    c.in_ok-reply.ensures.desk (c.list_ends.ensures ∙ c.sweep_after.ensures)
