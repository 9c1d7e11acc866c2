-- A session over a log of versions: what each line is replied, and what the session sees and pins then. The log is the
-- whole one, as it is at the end; a session sees more and more of its first entries.
use Rattle.std.specs.Prelude.{◌≡◌, ◌≤◌, ◌+◌, ◌⊎◌, ℕ, List, [], ◌∷◌, length, take, Option, Some, None, Result, MatchBool, MatchOption, MatchResult, slice_get}
use Rattle.partial_path.specs.declared.bounds.Bounds.{Bounds}
use Rattle.partial_path.specs.PathSets.{FileRules}
use Rattle.version_tree.specs.declared.edit.Edit.{Edit}
use Rattle.version_tree.specs.declared.edit.Edit.TheVariants as edit
use Rattle.version_tree.specs.declared.entry.Entry.{Entry}
use Rattle.version_tree.specs.declared.row.Answer.{Answer}
use Rattle.version_tree.specs.declared.row.Row.{Row}
use Rattle.version_tree.specs.Contents.{replay, granted_rows}
use Rattle.version_tree.specs.Graphs.{GraphRow, graph_rows}
use Rattle.version_board.specs.Logs.{own, entry}
use Rattle.index_gate.specs.declared.fault.FileFault.{FileFault}
use Rattle.index_gate.specs.Indexed.{AreFilesOf, IsFirstFault}
use Rattle.nav_answers.specs.declared.found.At.{At}
use Rattle.nav_answers.specs.declared.found.AskFault.{AskFault}
use Rattle.nav_answers.specs.Replies.{IsDefineReply, IsReferencesReply}
use Rattle.nav_answers.specs.Callers.{IsCallersReply}
use Rattle.nav_proto.specs.declared.request.FileEdit.{FileEdit}
use Rattle.nav_proto.specs.declared.request.Request.{Request}
use Rattle.nav_proto.specs.declared.request.Request.TheVariants.{Hello, Pin, Commit, Grant, Revoke, Deny, Undeny, Define, References, Callers, Quit}
use Rattle.nav_proto.specs.declared.reply.Reply.{Reply}
use Rattle.nav_proto.specs.declared.reply.Reply.TheVariants.{Version, Done, Plain, BadFile}
use Rattle.nav_proto.specs.declared.reply.PlainError.TheVariants.{NoUser, Forbidden}
use Rattle.nav_proto.specs.Requests.{request_from}
use Rattle.nav_session.specs.BadFiles.{file_error}
use Rattle.nav_session.specs.Requests.{is_operator, docs_in, edits_with, at_of}
use Rattle.nav_session.specs.Refusals.{callers_reply, fault_reply, query_reply, verdict}

-- who asks, once it is named: the user, and how many entries of the log make the version that is pinned
pub record Asker : Type 0 where
  pub user : List ℕ
  pub pin : ℕ

-- the user who asks, with so many entries pinned
abbrev pub asker_of : ℕ → List ℕ → Asker
asker_of pin user = record { user = user; pin = pin }

-- a session: how many entries of the log it has seen, and who asks, where one was named
pub record Session : Type 0 where
  pub seen : ℕ
  pub asker : Option Asker

-- at its beginning nobody is named
abbrev pub opened : ℕ → Session
opened seen = record { seen = seen; asker = None }

-- it has seen so many entries, and the user pins so many
abbrev pub asked_by : ℕ → List ℕ → ℕ → Session
asked_by seen user pin = record { seen = seen; asker = Some (asker_of pin user) }

-- from so many entries the session comes to see so many; none of those between is of its own seat
pub record Sees (seat : ℕ) (log : List Entry) (before after : ℕ) : Type 0 where
  pub no_less : before ≤ after
  pub there : after ≤ length log
  pub own_stay : own seat (take after log) ≡ own seat (take before log)

-- that is the reply, and nothing changes
pub record Stays (due : Reply) (before : Session) (reply : Reply) (after : Session) : Type 0 where
  pub told : reply ≡ due
  pub same : after ≡ before

-- `hello`, `pin`: what there is to see is seen and pinned, and its number is told
pub record Pins (seat : ℕ) (log : List Entry) (seen : ℕ) (user : List ℕ) (reply : Reply) (after : Session) : Type 0 where
  pub head : ℕ
  pub sees : Sees seat log seen head
  pub told : reply ≡ Version head
  pub pinned : after ≡ asked_by head user head

-- edits that a head refuses: it is read, and nothing else changes
pub record Refuses (seat : ℕ) (log : List Entry) (seen : ℕ) (asker : Asker) (base : Option ℕ) (edits : List Edit)
    (reply : Reply) (after : Session) : Type 0 where
  pub head : ℕ
  pub sees : Sees seat log seen head
  pub due : verdict base (take head log) edits ≡ Some reply
  pub same : after ≡ asked_by head asker.user asker.pin

-- edits that a head takes: they are the next entry, with the seat's name and its next number, which is seen and pinned
pub record Accepts (seat : ℕ) (log : List Entry) (seen : ℕ) (asker : Asker) (base : Option ℕ) (edits : List Edit)
    (reply : Reply) (after : Session) : Type 0 where
  pub head : ℕ
  pub sees : Sees seat log seen head
  pub due : verdict base (take head log) edits ≡ None
  pub entered : slice_get log head ≡ Some (entry seat (length (own seat (take head log))) edits)
  pub told : reply ≡ Version (head + 1)
  pub pinned : after ≡ asked_by (head + 1) asker.user (head + 1)

-- what becomes of edits: a head refuses them, or takes them
abbrev pub IsJudged : ℕ → List Entry → ℕ → Asker → Option ℕ → List Edit → Reply → Session → Type 0
IsJudged seat log seen asker base edits reply after =
    Refuses seat log seen asker base edits reply after ⊎ Accepts seat log seen asker base edits reply after

-- a commit, one of whose documents has a fault: the first such is named
pub record HasBadFile (edits : List FileEdit) (before : Session) (reply : Reply) (after : Session) : Type 0 where
  pub path : List ℕ
  pub fault : FileFault
  pub first : IsFirstFault (docs_in edits) path fault
  pub stays : Stays (BadFile path (file_error fault)) before reply after

-- a commit whose documents have no fault: its edits put all paths of their graphs
pub record HasFiles (seat : ℕ) (log : List Entry) (seen : ℕ) (asker : Asker) (base : Option ℕ) (edits : List FileEdit)
    (reply : Reply) (after : Session) : Type 0 where
  pub files : List FileRules
  pub indexed : AreFilesOf (docs_in edits) files
  pub judged : IsJudged seat log seen asker base (edits_with edits files) reply after

-- what becomes of a commit: one of its documents has a fault, or its edits are judged
abbrev pub IsCommitted : ℕ → List Entry → Session → Asker → Option ℕ → List FileEdit → Reply → Session → Type 0
IsCommitted seat log before asker base edits reply after =
    HasBadFile edits before reply after ⊎ HasFiles seat log before.seen asker base edits reply after

-- what a query is replied: what it finds among the files that the user may see of the pinned version
abbrev pub QueryReply : Type 1
QueryReply = Bounds → List GraphRow → List ℕ → At → Result Answer AskFault → Type 0

-- a query of a user: its reply is due over the files that the user may see of the pinned version, and nothing changes
pub record Finds (IsReply : QueryReply) (log : List Entry) (before : Session) (asker : Asker) (path : List ℕ) (at : At)
    (bounds : Bounds) (reply : Reply) (after : Session) : Type 0 where
  pub pinned : asker.pin ≤ length log
  pub found : Result Answer AskFault
  pub exact : IsReply bounds (graph_rows (granted_rows asker.user (replay (take asker.pin log)))) path at found
  pub stays : Stays (query_reply found) before reply after

-- `callers` of a user: its reply is due over the files that the user may see of the pinned version, and nothing changes
pub record FindsCallers (log : List Entry) (before : Session) (asker : Asker) (path : List ℕ) (at : At) (reply : Reply)
    (after : Session) : Type 0 where
  pub pinned : asker.pin ≤ length log
  pub found : Result (List Row) AskFault
  pub exact : IsCallersReply (graph_rows (granted_rows asker.user (replay (take asker.pin log)))) path at found
  pub stays : Stays (callers_reply found) before reply after

-- what needs a user, and what needs the operator
abbrev pub IfNamed : Session → Reply → Session → (Asker → Type 0) → Type 0
IfNamed before reply after replied = MatchOption before.asker (Stays (Plain NoUser) before reply after) replied

abbrev pub IfOperator : Session → Reply → Session → (Asker → Type 0) → Type 0
IfOperator before reply after replied =
    IfNamed before reply after
    (λ (asker : Asker). MatchBool (is_operator asker.user) (replied asker) (Stays (Plain Forbidden) before reply after))

-- a change of who may see what
abbrev pub IsRuled : ℕ → List Entry → Session → Edit → Reply → Session → Type 0
IsRuled seat log before change reply after =
    IfOperator before reply after (λ asker. IsJudged seat log before.seen asker None (change ∷ []) reply after)

-- the reply to a request
abbrev pub IsAnswered : ℕ → List Entry → Session → Request → Reply → Session → Type 0
IsAnswered seat log before Quit reply after = Stays Done before reply after
IsAnswered seat log before (Hello user) reply after = Pins seat log before.seen user reply after
IsAnswered seat log before Pin reply after =
    IfNamed before reply after (λ (asker : Asker). Pins seat log before.seen asker.user reply after)
IsAnswered seat log before (Commit base edits) reply after =
    IfOperator before reply after (λ asker. IsCommitted seat log before asker base edits reply after)
IsAnswered seat log before (Grant user prefix) reply after = IsRuled seat log before (edit.Grant user prefix) reply after
IsAnswered seat log before (Revoke user prefix) reply after = IsRuled seat log before (edit.Revoke user prefix) reply after
IsAnswered seat log before (Deny user prefix) reply after = IsRuled seat log before (edit.Deny user prefix) reply after
IsAnswered seat log before (Undeny user prefix) reply after = IsRuled seat log before (edit.Undeny user prefix) reply after
IsAnswered seat log before (Define path point bounds) reply after =
    IfNamed before reply after (λ asker. Finds IsDefineReply log before asker path (at_of point) bounds reply after)
IsAnswered seat log before (References path point bounds) reply after =
    IfNamed before reply after (λ asker. Finds IsReferencesReply log before asker path (at_of point) bounds reply after)
IsAnswered seat log before (Callers path point) reply after =
    IfNamed before reply after (λ asker. FindsCallers log before asker path (at_of point) reply after)

-- the reply to a line: to what is no request, why, and else that of the request
abbrev pub IsReplyTo : ℕ → List Entry → Session → List ℕ → Reply → Session → Type 0
IsReplyTo seat log before line reply after =
    MatchResult (request_from line)
    (λ request. IsAnswered seat log before request reply after)
    (λ fault. Stays (fault_reply fault) before reply after)
