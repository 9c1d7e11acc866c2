-- What the parts of an answer do; no public clause cites this.
use Rattle.std.specs.Prelude.{◌≡◌, ◌≤◌, ◌+◌, ◌⊎◌, ℕ, List, [], ◌∷◌, length, true, false, if◌then◌else◌, Option, Some, None, MatchBool, Result, IfOk, OnOk, OnErr}
use Rattle.partial_path.specs.PathSets.{FileRules}
use Rattle.version_tree.specs.declared.edit.Edit.{Edit}
use Rattle.version_tree.specs.declared.entry.Entry.{Entry}
use Rattle.version_tree.specs.declared.edit.Edit.TheVariants as edit
use Rattle.nav_proto.specs.declared.request.FileEdit.{FileEdit}
use Rattle.nav_proto.specs.declared.request.FileEdit.TheVariants as asked
use Rattle.nav_proto.specs.declared.reply.PlainError.{PlainError}
use Rattle.nav_proto.specs.declared.reply.PlainError.TheVariants.{NoUser, Forbidden}
use Rattle.nav_answers.specs.declared.found.At.{At}
use Rattle.nav_answers.specs.Replies.{IsDefineReply, IsReferencesReply}
use Rattle.nav_session.specs.declared.asking.Query.{Query}
use Rattle.nav_session.specs.declared.asking.Query.TheVariants.{Define, References, Callers}
use Rattle.nav_session.specs.declared.drafts.Draft.{Draft}
use Rattle.nav_session.specs.declared.drafts.Draft.TheVariants.{Put, Remove}
use Rattle.path_store.specs.Store.{Kept, swept}
use Rattle.path_store.specs.Documents.{Doc}
use Rattle.index_gate.specs.Indexed.{AreDocWeights, AreFilesOf, docs_of, missing}
use Rattle.version_board.specs.Logs.{own}
use Rattle.nav_proto.specs.declared.request.Request.{Request}
use Rattle.nav_proto.specs.declared.reply.Reply.{Reply}
use Rattle.nav_proto.specs.Replies.{reply_text}
use Rattle.nav_session.specs.Requests.{docs_in, is_operator}
use Rattle.nav_session.specs.Sessions.{Session, Asker, asker_of, Finds, FindsCallers, IfNamed, IsJudged, IsCommitted, IsAnswered}
use Rattle.nav_session.specs.Transcripts.{with_newline}
use Rattle.nav_session.specs.Desks.{Moment, session_of, GoesOn, HasItsView, IsLeftOff, AddsDocs, KeepsDocs, Replies, is_accepted, is_indexed}

-- What comes of a request: the session goes on. With a result, what is told of that holds, and without one, for want of
-- memory, the session is left off.
pub record ComesOf {A E : Type 0} (result : Result A E) (Told : Moment → Moment → A → Type 0) (old new : Moment) : Type 0 where
  pub goes_on : GoesOn old new
  pub told : IfOk result (λ found. Told old new found)
  pub none : OnErr result (IsLeftOff old new)

-- Steps were counted for documents beside a store: at most what those weigh that the store lacks. Where there is no
-- document, and memory wasn't wanting, none was.
pub record Counts {A E : Type 0} (result : Result A E) (docs : List Doc) (store : List Kept) (old new : ℕ) : Type 0 where
  pub few : (total : ℕ) → AreDocWeights (missing (docs_of store) docs) total → new ≤ old + total
  pub none : OnOk result (docs ≡ [] → new ≡ old)

-- What comes of a query: where a user is named what is told of the reply holds for that one, and the desk's documents stay.
pub record Asks {E : Type 0} (result : Result Reply E) (Found : List Entry → Session → Asker → Reply → Session → Type 0) (old new : Moment) : Type 0 where
  pub reply : IfOk result (Replies (λ log before reply after. IfNamed before reply after (λ asker. Found log before asker reply after)) old new)
  pub store : new.desk.store ≡ old.desk.store
  pub keeps : new.desk.keeps ≡ old.desk.keeps

-- what the query of a user is replied
abbrev pub IsFound : Query → List Entry → Session → Asker → List ℕ → At → Reply → Session → Type 0
IsFound (Define bounds) log before asker path at reply after = Finds IsDefineReply log before asker path at bounds reply after
IsFound (References bounds) log before asker path at reply after = Finds IsReferencesReply log before asker path at bounds reply after
IsFound Callers log before asker path at reply after = FindsCallers log before asker path at reply after

-- why the user may change nothing
abbrev pub change_refusal : Option (List ℕ) → Option PlainError
change_refusal None = Some NoUser
change_refusal (Some user) = if is_operator user then None else Some Forbidden

-- the edits of a commit without their documents
abbrev pub draft_of : FileEdit → Draft
draft_of (asked.Put path text) = Put path
draft_of (asked.Remove path) = Remove path

-- such edits with these files
abbrev pub filled : List Draft → List FileRules → List Edit
filled [] files = []
filled (Put path ∷ drafts) [] = []
filled (Put path ∷ drafts) (file ∷ files) = edit.Put path file ∷ filled drafts files
filled (Remove path ∷ drafts) files = edit.Remove path ∷ filled drafts files

-- edits came before the board, and the store was swept where they were accepted
pub record PutsIn (base : Option ℕ) (edits : List Edit) (old new : Moment) (reply : Reply) : Type 0 where
  -- what becomes of them is told for the user who is named
  pub judged : (user : List ℕ) → old.desk.user ≡ Some user
      → IsJudged old.seat new.log (length old.log) (asker_of old.pin user) base edits reply (session_of new)
  pub no_entry : is_accepted reply ≡ false → own old.seat new.log ≡ own old.seat old.log
  pub indexed : is_indexed reply ≡ true
  pub kept : new.desk.store ≡ if is_accepted reply then swept old.desk.keeps old.desk.store else old.desk.store
  pub user : new.desk.user ≡ old.desk.user
  pub keeps : new.desk.keeps ≡ old.desk.keeps
  pub no_view : new.desk.view ≡ None

-- a commit of a user that may change anything was answered
pub record CommitsAs (base : Option ℕ) (edits : List FileEdit) (old new : Moment) (reply : Reply) : Type 0 where
  -- what becomes of the commit is told for the user who is named
  pub committed : (user : List ℕ) → old.desk.user ≡ Some user
      → IsCommitted old.seat new.log (session_of old) (asker_of old.pin user) base edits reply (session_of new)
  pub no_entry : is_accepted reply ≡ false → own old.seat new.log ≡ own old.seat old.log
  pub store : MatchBool (is_indexed reply) (AddsDocs old.desk.keeps (docs_in edits) reply old.desk.store new.desk.store) (new.desk.store ≡ old.desk.store)
  -- no view is kept, or all is as it was that the view depends on
  pub view : (new.desk.view ≡ None) ⊎ ((new.log ≡ old.log) × (new.pin ≡ old.pin) × (new.desk.view ≡ old.desk.view) × (new.desk.user ≡ old.desk.user))

-- a request was answered with this text, which has its newline
pub record AnswersWith (request : Request) (old new : Moment) (text : List ℕ) : Type 0 where
  pub reply : Reply
  pub printed : text ≡ with_newline (reply_text reply)
  pub replied : Replies (λ log before told after. IsAnswered old.seat log before request told after) old new reply
  pub store : KeepsDocs old.desk.keeps request reply old.desk.store new.desk.store
