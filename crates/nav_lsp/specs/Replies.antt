-- What each message of an editor is replied, and what the session is then. The log is the whole one, as it is at the end.
use Rattle.std.specs.Prelude.{◌≡◌, ◌≤◌, ℕ, List, [], ◌∷◌, length, if◌then◌else◌, Option, None, Some, MatchOption}
use Rattle.version_tree.specs.declared.entry.Entry.{Entry}
use Rattle.nav_proto.specs.declared.request.FileEdit.{FileEdit}
use Rattle.nav_proto.specs.declared.request.FileEdit.TheVariants.{Put, Remove}
use Rattle.nav_proto.specs.declared.request.Request.TheVariants.{Commit}
use Rattle.nav_proto.specs.declared.reply.Reply.{Reply as Answer}
use Rattle.nav_session.specs.Sessions.{asked_by, IsAnswered}
use Rattle.nav_session.specs.Desks.{is_accepted}
use Rattle.lsp_wire.specs.declared.message.Id.{Id}
use Rattle.lsp_wire.specs.declared.message.Method.{Method}
use Rattle.lsp_wire.specs.declared.message.Method.TheVariants as method
use Rattle.lsp_wire.specs.declared.message.Asks.{Asks}
use Rattle.lsp_wire.specs.declared.message.Asks.TheVariants.{Initialize, Initialized, Shutdown, Exit, DidOpen, DidChange, DidClose, Definition, References, Unknown, WrongParams}
use Rattle.lsp_wire.specs.declared.message.Body.{Body}
use Rattle.lsp_wire.specs.declared.message.Body.TheVariants as body
use Rattle.lsp_wire.specs.declared.reply.Outcome.{Outcome}
use Rattle.lsp_wire.specs.declared.reply.Outcome.TheVariants.{Capabilities, Null, Refused}
use Rattle.lsp_wire.specs.declared.reply.Refusal.{Refusal}
use Rattle.lsp_wire.specs.declared.reply.Refusal.TheVariants.{ParseError, InvalidRequest, NotInitialized, MethodNotFound, InvalidParams}
use Rattle.lsp_wire.specs.declared.reply.Reply.{Reply}
use Rattle.lsp_wire.specs.Messages.{body_from}
use Rattle.lsp_texts.specs.Texts.{with_text}
use Rattle.nav_lsp.specs.declared.phase.Phase.{Phase}
use Rattle.nav_lsp.specs.declared.phase.Phase.TheVariants.{Before, Open, Shut}
use Rattle.lsp_answers.specs.Documents.{path_under}
use Rattle.nav_lsp.specs.Editing.{Editing, operator, files_of, begun, shut}
use Rattle.lsp_answers.specs.Queries.{IsPlaced, TellsDefinitions, TellsReferences}

-- the reply to a request that is carried out
abbrev pub replied : Id → Outcome → Option Reply
replied id outcome = Some (record { id = Some id; outcome = outcome })

-- the reply to one that is refused; what is no message has no id
abbrev pub refused : Option Id → Refusal → Option Reply
refused id refusal = Some (record { id = id; outcome = Refused refusal })

-- that is the reply, or there is none, and that the session afterwards
pub record RepliesWith (due : Option Reply) (next : Editing) (reply : Option Reply) (after : Editing) : Type 0 where
  pub told : reply ≡ due
  pub becomes : after ≡ next

-- why a request isn't carried out before `initialize` was answered: only that one is
abbrev pub early_refusal : Asks → Option Refusal
early_refusal (Initialize root) = None
early_refusal Initialized = Some NotInitialized
early_refusal Shutdown = Some NotInitialized
early_refusal Exit = Some NotInitialized
early_refusal (DidOpen uri text) = Some NotInitialized
early_refusal (DidChange uri text) = Some NotInitialized
early_refusal (DidClose uri) = Some NotInitialized
early_refusal (Definition uri at) = Some NotInitialized
early_refusal (References uri at declaration) = Some NotInitialized
early_refusal Unknown = Some NotInitialized
early_refusal (WrongParams method) = Some NotInitialized

-- why one isn't that lacks parameters: a method of notifications is no method of requests, and a second `initialize` is
-- no request
abbrev pub params_refusal : Method → Refusal
params_refusal method.Initialize = InvalidRequest
params_refusal method.Initialized = MethodNotFound
params_refusal method.Shutdown = InvalidParams
params_refusal method.Exit = MethodNotFound
params_refusal method.DidOpen = MethodNotFound
params_refusal method.DidChange = MethodNotFound
params_refusal method.DidClose = MethodNotFound
params_refusal method.Definition = InvalidParams
params_refusal method.References = InvalidParams

-- why one isn't in a session that is open: it is a second `initialize`, has another method than the four, or lacks
-- parameters
abbrev pub open_refusal : Asks → Option Refusal
open_refusal (Initialize root) = Some InvalidRequest
open_refusal Initialized = Some MethodNotFound
open_refusal Shutdown = None
open_refusal Exit = Some MethodNotFound
open_refusal (DidOpen uri text) = Some MethodNotFound
open_refusal (DidChange uri text) = Some MethodNotFound
open_refusal (DidClose uri) = Some MethodNotFound
open_refusal (Definition uri at) = None
open_refusal (References uri at declaration) = None
open_refusal Unknown = Some MethodNotFound
open_refusal (WrongParams method) = Some (params_refusal method)

-- why one isn't in any session: after `shutdown` none is
abbrev pub refusal_of : Phase → Asks → Option Refusal
refusal_of Before asks = early_refusal asks
refusal_of Open asks = open_refusal asks
refusal_of Shut asks = Some InvalidRequest

-- a query of the version that is pinned, which is one of the log, is replied with an outcome, and nothing changes
abbrev pub IsQueried : List Entry → Editing → Id → Option Reply → Editing → (Outcome → Type 0) → Type 0
IsQueried log before id reply after IsOutcome =
    (before.pin ≤ length log) × (outcome : Outcome) × IsOutcome outcome × RepliesWith (replied id outcome) before reply after

-- a request that is carried out; the other methods are refused
abbrev pub IsCarriedOut : List Entry → Editing → Id → Asks → Option Reply → Editing → Type 0
IsCarriedOut log before id (Initialize root) reply after = RepliesWith (replied id Capabilities) (begun root before) reply after
IsCarriedOut log before id Initialized reply after = ⊥
IsCarriedOut log before id Shutdown reply after = RepliesWith (replied id Null) (shut before) reply after
IsCarriedOut log before id Exit reply after = ⊥
IsCarriedOut log before id (DidOpen uri text) reply after = ⊥
IsCarriedOut log before id (DidChange uri text) reply after = ⊥
IsCarriedOut log before id (DidClose uri) reply after = ⊥
IsCarriedOut log before id (Definition uri at) reply after =
    IsQueried log before id reply after
    (IsPlaced before.root before.texts uri at (TellsDefinitions (files_of log before.pin) before.root before.texts))
IsCarriedOut log before id (References uri at declaration) reply after =
    IsQueried log before id reply after
    (IsPlaced before.root before.texts uri at (TellsReferences (files_of log before.pin) before.root before.texts declaration))
IsCarriedOut log before id Unknown reply after = ⊥
IsCarriedOut log before id (WrongParams method) reply after = ⊥

-- a request: it is refused, or carried out
abbrev pub IsRequested : List Entry → Editing → Id → Asks → Option Reply → Editing → Type 0
IsRequested log before id asks reply after =
    MatchOption (refusal_of before.phase asks)
    (IsCarriedOut log before id asks reply after)
    (λ refusal. RepliesWith (refused (Some id) refusal) before reply after)

-- One edit at a path is committed by the operator. Where it is accepted, this is the text there from then on, or none;
-- else nothing changes but what is seen.
pub record Commits (seat : ℕ) (log : List Entry) (before : Editing) (path : List ℕ) (edit : FileEdit) (text : Option (List ℕ))
    (reply : Option Reply) (after : Editing) : Type 0 where
  pub told : reply ≡ None
  pub answer : Answer
  pub committed : IsAnswered seat log (asked_by before.seen operator before.pin) (Commit None (edit ∷ [])) answer
      (asked_by after.seen operator after.pin)
  pub texts : after.texts ≡ if is_accepted answer then with_text path text before.texts else before.texts
  pub same_phase : after.phase ≡ before.phase
  pub same_root : after.root ≡ before.root

-- a document outside is passed over
abbrev pub IfInside : Editing → List ℕ → Option Reply → Editing → (List ℕ → Type 0) → Type 0
IfInside before uri reply after IsDone = MatchOption (path_under before.root uri) (RepliesWith None before reply after) IsDone

-- the document has this text from now on
abbrev pub IsPut : ℕ → List Entry → Editing → List ℕ → List ℕ → Option Reply → Editing → Type 0
IsPut seat log before uri text reply after =
    IfInside before uri reply after (λ path. Commits seat log before path (Put path text) (Some text) reply after)

-- the document is no longer open: its file goes, and a commit that removes no file is refused
abbrev pub IsClosed : ℕ → List Entry → Editing → List ℕ → Option Reply → Editing → Type 0
IsClosed seat log before uri reply after =
    IfInside before uri reply after (λ path. Commits seat log before path (Remove path) None reply after)

-- it was changed: without a text nothing changes
abbrev pub IsChanged : ℕ → List Entry → Editing → List ℕ → Option (List ℕ) → Option Reply → Editing → Type 0
IsChanged seat log before uri text reply after =
    MatchOption text (RepliesWith None before reply after) (λ text. IsPut seat log before uri text reply after)

-- a notification in a session that is open: each other one than these three is passed over
abbrev pub IsNoted : ℕ → List Entry → Editing → Asks → Option Reply → Editing → Type 0
IsNoted seat log before (Initialize root) reply after = RepliesWith None before reply after
IsNoted seat log before Initialized reply after = RepliesWith None before reply after
IsNoted seat log before Shutdown reply after = RepliesWith None before reply after
IsNoted seat log before Exit reply after = RepliesWith None before reply after
IsNoted seat log before (DidOpen uri text) reply after = IsPut seat log before uri text reply after
IsNoted seat log before (DidChange uri text) reply after = IsChanged seat log before uri text reply after
IsNoted seat log before (DidClose uri) reply after = IsClosed seat log before uri reply after
IsNoted seat log before (Definition uri at) reply after = RepliesWith None before reply after
IsNoted seat log before (References uri at declaration) reply after = RepliesWith None before reply after
IsNoted seat log before Unknown reply after = RepliesWith None before reply after
IsNoted seat log before (WrongParams method) reply after = RepliesWith None before reply after

-- a notification in any session: before `initialize` and after `shutdown` it is passed over
abbrev pub IsNotified : Phase → ℕ → List Entry → Editing → Asks → Option Reply → Editing → Type 0
IsNotified Before seat log before asks reply after = RepliesWith None before reply after
IsNotified Open seat log before asks reply after = IsNoted seat log before asks reply after
IsNotified Shut seat log before asks reply after = RepliesWith None before reply after

-- a message with a method: with an id it is a request, and a notification without one
abbrev pub IsMessage : Option Id → ℕ → List Entry → Editing → Asks → Option Reply → Editing → Type 0
IsMessage None seat log before asks reply after = IsNotified before.phase seat log before asks reply after
IsMessage (Some id) seat log before asks reply after = IsRequested log before id asks reply after

-- the body of a frame: what is no message is refused, and an object without a method passed over
abbrev pub IsReplied : ℕ → List Entry → Editing → Body → Option Reply → Editing → Type 0
IsReplied seat log before body.NotJson reply after = RepliesWith (refused None ParseError) before reply after
IsReplied seat log before body.Invalid reply after = RepliesWith (refused None InvalidRequest) before reply after
IsReplied seat log before body.Passed reply after = RepliesWith None before reply after
IsReplied seat log before (body.Message m) reply after = IsMessage m.id seat log before m.asks reply after

-- the bytes of a body
abbrev pub IsReplyTo : ℕ → List Entry → Editing → List ℕ → Option Reply → Editing → Type 0
IsReplyTo seat log before bytes reply after = IsReplied seat log before (body_from bytes) reply after
