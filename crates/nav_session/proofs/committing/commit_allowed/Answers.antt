use Rattle.std.proofs.Common.{sym, ◌∙◌}
use Rattle.nav_session.proofs.Committed.{judged_docs}
use Rattle.nav_session.proofs.committing.commit_allowed.Goals as goal

-- the documents have files, and the edits came before the board
pub returns-in-Ok-clause-committed : goal.returns-in-Ok-clause-committed
returns-in-Ok-clause-committed g c =
    judged_docs (g.B.Pins.seat c.args.board.now) (g.B.Pins.log c.args.board.now) (g.B.Pins.pin_at c.args.board.now) c.args.desk.now
    c.desk.inside.store c.index_all.new.store c.desk.inside.user c.desk.inside.view c.desk.inside.keeps _ c.args.base c.args.edits
    c.deref.result.now c.in_ok-drafts.drafts.drafts.items c.in-Ok.files.items c.put_in.result
    (sym c.desk.view_is) (c.deref.ensures.value ∙ c.in_ok-drafts.ensures.docs) c.in_ok-drafts.ensures.drafts
    c.in-Ok.ensures.files c.in-Ok.ensures.added c.put_in.ensures.put
