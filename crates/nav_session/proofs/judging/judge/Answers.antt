use Rattle.std.proofs.Common.{◌≡◌, sym, ap, subst, ℕ, List, length, Option, Some, Err, IfOk}
use Rattle.nav_session.specs.Sessions.{IsJudged, asker_of}
use Rattle.nav_session.specs.Desks.{OnDesk, session_at}
use Rattle.nav_session.proofs.Judged.{judged, commits_indexed, own_stays}
use Rattle.nav_session.proofs.judging.judge.Goals as goal

-- the board refused the edits, or memory was wanting
pub returns-in-Err-clause-judged : goal.returns-in-Err-clause-judged
returns-in-Err-clause-judged g c =
    let same : c.forget_view.new.self.user ≡ c.args.desk.now.user = ap (λ (d : OnDesk). d.user) c.forget_view.ensures in
    subst (λ (o : Option (List ℕ)). IfOk c.commit_reply.result (λ reply. (user : List ℕ) → c.args.desk.now.user ≡ Some user
    → IsJudged (g.B.Pins.seat c.args.board.now) (g.B.Pins.log c.commit.new.self) (length (g.B.Pins.log c.args.board.now)) (asker_of (g.B.Pins.pin_at c.args.board.now) user)
    c.args.base c.args.edits.now reply (session_at (length (g.B.Pins.log c.commit.new.self)) (g.B.Pins.pin_at c.commit.new.self) o)))
    (sym same)
    (judged (g.B.Pins.seat c.args.board.now) (g.B.Pins.log c.args.board.now) (g.B.Pins.log c.commit.new.self) (g.B.Pins.pin_at c.args.board.now) (g.B.Pins.pin_at c.commit.new.self)
    c.args.base c.args.edits.now c.in-Err.fault c.args.desk.now.user c.commit_reply.result c.commit_reply.ensures.reply c.commit_reply.ensures.definite c.in-Err.ensures.later
    (λ n e. c.in-Err.ensures.stale n (ap (λ x. Err x) e)) (λ fault e. c.in-Err.ensures.refused fault (ap (λ x. Err x) e)) c.in-Err.ensures.pin_stays)

pub returns-in-Err-clause-no_entry : goal.returns-in-Err-clause-no_entry
returns-in-Err-clause-no_entry g c =
    (own_stays (g.B.Pins.seat c.args.board.now) (g.B.Pins.log c.args.board.now) (g.B.Pins.log c.commit.new.self) c.commit_reply.result c.in-Err.ensures.later).0

pub returns-in-Err-clause-indexed : goal.returns-in-Err-clause-indexed
returns-in-Err-clause-indexed g c = commits_indexed c.in-Err.fault c.commit_reply.result c.commit_reply.ensures.reply

pub returns-in-Err-clause-none : goal.returns-in-Err-clause-none
returns-in-Err-clause-none g c =
    (own_stays (g.B.Pins.seat c.args.board.now) (g.B.Pins.log c.args.board.now) (g.B.Pins.log c.commit.new.self) c.commit_reply.result c.in-Err.ensures.later).1
