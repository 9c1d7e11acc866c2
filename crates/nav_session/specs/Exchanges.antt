-- The queries of sessions as questions to a seat: which reply is due over the files that the user sees.
use Rattle.std.specs.Prelude.{◌≡◌, ℕ, List, Result, ⊤}
use Rattle.version_tree.specs.declared.entry.Entry.{Entry}
use Rattle.version_tree.specs.declared.row.Answer.{Answer}
use Rattle.version_tree.specs.declared.row.Row.{Row}
use Rattle.version_tree.specs.Graphs.{GraphRow}
use Rattle.version_board.specs.Core.{files_at}
use Rattle.nav_answers.specs.declared.found.AskFault.{AskFault}
use Rattle.nav_answers.specs.Replies.{IsDefineReply, IsReferencesReply}
use Rattle.nav_answers.specs.Callers.{IsCallersReply}
use Rattle.nav_proto.specs.declared.request.Request.{Request}
use Rattle.nav_proto.specs.declared.request.Request.TheVariants.{Define, References, Callers}
use Rattle.nav_proto.specs.declared.reply.Reply.{Reply}
use Rattle.nav_session.specs.declared.exchange.Replied.{Replied}
use Rattle.nav_session.specs.Requests.{at_of}
use Rattle.nav_session.specs.Refusals.{callers_reply, query_reply}
use Rattle.nav_session.specs.Sessions.{Session, asked_by, IsAnswered}

-- The reply that is due to a query, where its user sees the graphs of these files. No other request is a question.
abbrev pub IsDueReply : List GraphRow → Request → Reply → Type 0
IsDueReply rows (Define path point bounds) reply =
    (found : Result Answer AskFault) × IsDefineReply bounds rows path (at_of point) found × (reply ≡ query_reply found)
IsDueReply rows (References path point bounds) reply =
    (found : Result Answer AskFault) × IsReferencesReply bounds rows path (at_of point) found × (reply ≡ query_reply found)
IsDueReply rows (Callers path point) reply =
    (found : Result (List Row) AskFault) × IsCallersReply rows path (at_of point) found × (reply ≡ callers_reply found)
IsDueReply rows _ reply = ⊥

-- that of a request with its reply
abbrev pub IsDue : List GraphRow → Replied → Type 0
IsDue rows replied = IsDueReply rows replied.request replied.reply

-- that the request is a query
abbrev pub IsQuery : Request → Type 0
IsQuery (Define path point bounds) = ⊤
IsQuery (References path point bounds) = ⊤
IsQuery (Callers path point) = ⊤
IsQuery _ = ⊥

-- What a session whose user pins so many entries is replied to a query is due over the files that the user sees of their
-- version.
abbrev pub QueriesAreAskedAtPin : Type 0
QueriesAreAskedAtPin =
    (seat seen pin : ℕ) (log : List Entry) (user : List ℕ) (request : Request) (reply : Reply) (after : Session)
    → IsQuery request → IsAnswered seat log (asked_by seen user pin) request reply after
    → IsDueReply (files_at log user pin) request reply
