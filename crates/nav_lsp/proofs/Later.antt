-- What a transcript says over a log, it says over each longer log that begins with it.
use Rattle.std.proofs.Common.{◌≡◌, ℕ, ◌≤◌, List, [], ◌∷◌, ◌++◌, length, take, Option, Some, None, refl, sym, ap, subst, ◌∙◌, arith, length-append}
use Rattle.std.specs.Prelude.{MatchOption}
use Rattle.std.proofs.lemmas.List.{take-append-le}
use Rattle.std.proofs.Math.Seq.{take-append_seam}
use Rattle.version_tree.specs.declared.entry.Entry.{Entry}
use Rattle.version_tree.specs.Contents.{replay, granted_rows}
use Rattle.version_tree.specs.Graphs.{GraphRow, graph_rows}
use Rattle.version_board.specs.Logs.{Begins, own}
use Rattle.nav_proto.specs.declared.request.FileEdit.{FileEdit}
use Rattle.nav_proto.specs.declared.request.FileEdit.TheVariants.{Put, Remove}
use Rattle.nav_proto.specs.declared.request.Request.TheVariants.{Commit}
use Rattle.nav_session.specs.Sessions.{Sees, asked_by}
use Rattle.nav_session.proofs.CallerLemmas.{answered_later}
use Rattle.lsp_wire.specs.declared.message.Id.{Id}
use Rattle.lsp_wire.specs.declared.message.Asks.{Asks}
use Rattle.lsp_wire.specs.declared.message.Asks.TheVariants.{Initialize, Initialized, Shutdown, Exit, DidOpen, DidChange, DidClose, Definition, References, Unknown, WrongParams}
use Rattle.lsp_wire.specs.declared.message.Body.{Body}
use Rattle.lsp_wire.specs.declared.message.Body.TheVariants as body
use Rattle.lsp_wire.specs.declared.reply.Outcome.{Outcome}
use Rattle.lsp_wire.specs.declared.reply.Refusal.{Refusal}
use Rattle.lsp_wire.specs.declared.reply.Reply.{Reply}
use Rattle.lsp_wire.specs.Messages.{body_from}
use Rattle.lsp_answers.specs.Documents.{path_under}
use Rattle.lsp_answers.specs.Queries.{IsPlaced, TellsDefinitions, TellsReferences}
use Rattle.nav_lsp.specs.declared.phase.Phase.{Phase}
use Rattle.nav_lsp.specs.declared.phase.Phase.TheVariants.{Before, Open, Shut}
use Rattle.nav_lsp.specs.Editing.{Editing, operator, files_of}
use Rattle.nav_lsp.specs.Replies.{RepliesWith, refused, refusal_of, IsQueried, IsCarriedOut, IsRequested, Commits, IsPut, IsClosed, IsChanged, IsNoted, IsNotified, IsMessage, IsReplied, IsReplyTo}
use Rattle.nav_lsp.specs.Transcripts.{AreReplies}

-- a log that begins another one is its first entries
pub taken_first : (log log' : List Entry) → Begins log log' → take (length log) log' ≡ log
taken_first log log' (more, e) = subst (λ (l : List Entry). take (length log) l ≡ log) e (take-append_seam log more)

pub no_longer : (log log' : List Entry) → Begins log log' → length log ≤ length log'
no_longer log log' (more, e) = let n = ap length e in let m = length-append log more in omega (arith, n, m)

-- the first entries stay
first_stay : (n : ℕ) (log log' : List Entry) → Begins log log' → n ≤ length log → take n log' ≡ take n log
first_stay n log log' (more, e) within =
    subst (λ (l : List Entry). take n l ≡ take n log) e (take-append-le n log more within)

there_stay : (n : ℕ) (log log' : List Entry) → Begins log log' → n ≤ length log → n ≤ length log'
there_stay n log log' b within = let all = no_longer log log' b in omega (arith, within, all)

pub sees_later : (seat : ℕ) (log log' : List Entry) (a b : ℕ) → Begins log log' → Sees seat log a b → Sees seat log' a b
sees_later seat log log' a b begins s = record {
  no_less = s.no_less;
  there = there_stay b log log' begins s.there;
  own_stay = ap (own seat) (first_stay b log log' begins s.there) ∙ s.own_stay
      ∙ sym (ap (own seat) (first_stay a log log' begins (omega (arith, s.no_less, s.there))));
}

files_stay : (n : ℕ) (log log' : List Entry) → Begins log log' → n ≤ length log → files_of log n ≡ files_of log' n
files_stay n log log' b within =
    ap (λ (l : List Entry). graph_rows (granted_rows operator (replay l))) (sym (first_stay n log log' b within))

-- a query over the files of the version that is pinned
queried_later : (log log' : List Entry) (before : Editing) (id : Id) (reply : Option Reply) (after : Editing) (P : List GraphRow → Outcome → Type 0)
    → Begins log log' → IsQueried log before id reply after (P (files_of log before.pin)) → IsQueried log' before id reply after (P (files_of log' before.pin))
queried_later log log' before id reply after P b h = (
  there_stay before.pin log log' b h.0,
  h.1,
  subst (λ (files : List GraphRow). P files h.1) (files_stay before.pin log log' b h.0) h.2,
  h.3,
)

carried_out_later : (log log' : List Entry) (before : Editing) (id : Id) (asks : Asks) (reply : Option Reply) (after : Editing)
    → Begins log log' → IsCarriedOut log before id asks reply after → IsCarriedOut log' before id asks reply after
carried_out_later log log' before id (Initialize root) reply after b h = h
carried_out_later log log' before id Initialized reply after b h = h
carried_out_later log log' before id Shutdown reply after b h = h
carried_out_later log log' before id Exit reply after b h = h
carried_out_later log log' before id (DidOpen uri text) reply after b h = h
carried_out_later log log' before id (DidChange uri text) reply after b h = h
carried_out_later log log' before id (DidClose uri) reply after b h = h
carried_out_later log log' before id (Definition uri position) reply after b h =
    queried_later log log' before id reply after
    (λ files. IsPlaced before.root before.texts uri position (TellsDefinitions files before.root before.texts)) b h
carried_out_later log log' before id (References uri position declaration) reply after b h =
    queried_later log log' before id reply after
    (λ files. IsPlaced before.root before.texts uri position (TellsReferences files before.root before.texts declaration)) b h
carried_out_later log log' before id Unknown reply after b h = h
carried_out_later log log' before id (WrongParams method) reply after b h = h

unless_refused : (o : Option Refusal) (A B : Type 0) (P : Refusal → Type 0) → (A → B) → MatchOption o A P → MatchOption o B P
unless_refused None A B P f h = f h
unless_refused (Some refusal) A B P f h = h

requested_later : (log log' : List Entry) (before : Editing) (id : Id) (asks : Asks) (reply : Option Reply) (after : Editing)
    → Begins log log' → IsRequested log before id asks reply after → IsRequested log' before id asks reply after
requested_later log log' before id asks reply after b h =
    unless_refused (refusal_of before.phase asks) (IsCarriedOut log before id asks reply after) (IsCarriedOut log' before id asks reply after)
    (λ refusal. RepliesWith (refused (Some id) refusal) before reply after) (carried_out_later log log' before id asks reply after b) h

-- a change of one document
commits_later : (seat : ℕ) (log log' : List Entry) (before : Editing) (path : List ℕ) (edit : FileEdit) (text : Option (List ℕ)) (reply : Option Reply) (after : Editing)
    → Begins log log' → Commits seat log before path edit text reply after → Commits seat log' before path edit text reply after
commits_later seat log log' before path edit text reply after b c = record {
  told = c.told;
  answer = c.answer;
  committed = answered_later seat log log' (asked_by before.seen operator before.pin) (Commit None (edit ∷ [])) c.answer
      (asked_by after.seen operator after.pin) b c.committed;
  texts = c.texts;
  same_phase = c.same_phase;
  same_root = c.same_root;
}

if_some : (X : Type 0) (o : Option X) (A : Type 0) (P Q : X → Type 0) → ((x : X) → P x → Q x) → MatchOption o A P → MatchOption o A Q
if_some X None A P Q f h = h
if_some X (Some x) A P Q f h = f x h

put_later : (seat : ℕ) (log log' : List Entry) (before : Editing) (uri text : List ℕ) (reply : Option Reply) (after : Editing)
    → Begins log log' → IsPut seat log before uri text reply after → IsPut seat log' before uri text reply after
put_later seat log log' before uri text reply after b h =
    if_some (List ℕ) (path_under before.root uri) (RepliesWith None before reply after)
    (λ path. Commits seat log before path (Put path text) (Some text) reply after)
    (λ path. Commits seat log' before path (Put path text) (Some text) reply after)
    (λ path c. commits_later seat log log' before path (Put path text) (Some text) reply after b c) h

closed_later : (seat : ℕ) (log log' : List Entry) (before : Editing) (uri : List ℕ) (reply : Option Reply) (after : Editing)
    → Begins log log' → IsClosed seat log before uri reply after → IsClosed seat log' before uri reply after
closed_later seat log log' before uri reply after b h =
    if_some (List ℕ) (path_under before.root uri) (RepliesWith None before reply after)
    (λ path. Commits seat log before path (Remove path) None reply after)
    (λ path. Commits seat log' before path (Remove path) None reply after)
    (λ path c. commits_later seat log log' before path (Remove path) None reply after b c) h

changed_later : (seat : ℕ) (log log' : List Entry) (before : Editing) (uri : List ℕ) (text : Option (List ℕ)) (reply : Option Reply) (after : Editing)
    → Begins log log' → IsChanged seat log before uri text reply after → IsChanged seat log' before uri text reply after
changed_later seat log log' before uri text reply after b h =
    if_some (List ℕ) text (RepliesWith None before reply after)
    (λ text. IsPut seat log before uri text reply after)
    (λ text. IsPut seat log' before uri text reply after)
    (λ text p. put_later seat log log' before uri text reply after b p) h

noted_later : (seat : ℕ) (log log' : List Entry) (before : Editing) (asks : Asks) (reply : Option Reply) (after : Editing)
    → Begins log log' → IsNoted seat log before asks reply after → IsNoted seat log' before asks reply after
noted_later seat log log' before (Initialize root) reply after b h = h
noted_later seat log log' before Initialized reply after b h = h
noted_later seat log log' before Shutdown reply after b h = h
noted_later seat log log' before Exit reply after b h = h
noted_later seat log log' before (DidOpen uri text) reply after b h = put_later seat log log' before uri text reply after b h
noted_later seat log log' before (DidChange uri text) reply after b h = changed_later seat log log' before uri text reply after b h
noted_later seat log log' before (DidClose uri) reply after b h = closed_later seat log log' before uri reply after b h
noted_later seat log log' before (Definition uri position) reply after b h = h
noted_later seat log log' before (References uri position declaration) reply after b h = h
noted_later seat log log' before Unknown reply after b h = h
noted_later seat log log' before (WrongParams method) reply after b h = h

notified_later : (phase : Phase) (seat : ℕ) (log log' : List Entry) (before : Editing) (asks : Asks) (reply : Option Reply) (after : Editing)
    → Begins log log' → IsNotified phase seat log before asks reply after → IsNotified phase seat log' before asks reply after
notified_later Before seat log log' before asks reply after b h = h
notified_later Open seat log log' before asks reply after b h = noted_later seat log log' before asks reply after b h
notified_later Shut seat log log' before asks reply after b h = h

message_later : (id : Option Id) (seat : ℕ) (log log' : List Entry) (before : Editing) (asks : Asks) (reply : Option Reply) (after : Editing)
    → Begins log log' → IsMessage id seat log before asks reply after → IsMessage id seat log' before asks reply after
message_later None seat log log' before asks reply after b h = notified_later before.phase seat log log' before asks reply after b h
message_later (Some id) seat log log' before asks reply after b h = requested_later log log' before id asks reply after b h

-- the reply that is due over a log is due over each longer one
pub replied_later : (seat : ℕ) (log log' : List Entry) (before : Editing) (told : Body) (reply : Option Reply) (after : Editing)
    → Begins log log' → IsReplied seat log before told reply after → IsReplied seat log' before told reply after
replied_later seat log log' before body.NotJson reply after b h = h
replied_later seat log log' before body.Invalid reply after b h = h
replied_later seat log log' before body.Passed reply after b h = h
replied_later seat log log' before (body.Message m) reply after b h = message_later m.id seat log log' before m.asks reply after b h

pub replies_later : (seat : ℕ) (log log' : List Entry) (before : Editing) (messages : List (List ℕ)) (replies : List (Option Reply)) (after : Editing)
    → Begins log log' → AreReplies seat log before messages replies after → AreReplies seat log' before messages replies after
replies_later seat log log' before [] [] after b h = h
replies_later seat log log' before [] (reply ∷ replies) after b h = h
replies_later seat log log' before (bytes ∷ messages) [] after b h = h
replies_later seat log log' before (bytes ∷ messages) (reply ∷ replies) after b h =
    (h.0, replied_later seat log log' before (body_from bytes) reply h.0 b h.1, replies_later seat log log' h.0 messages replies after b h.2)

-- one reply more
pub replies_more : (seat : ℕ) (log : List Entry) (before : Editing) (messages : List (List ℕ)) (replies : List (Option Reply)) (mid : Editing)
    (bytes : List ℕ) (reply : Option Reply) (after : Editing)
    → AreReplies seat log before messages replies mid → IsReplyTo seat log mid bytes reply after
    → AreReplies seat log before (messages ++ bytes ∷ []) (replies ++ reply ∷ []) after
replies_more seat log before [] [] mid bytes reply after h one =
    (after, subst (λ (e : Editing). IsReplyTo seat log e bytes reply after) h one, refl)
replies_more seat log before [] (r ∷ replies) mid bytes reply after h one = absurd h
replies_more seat log before (m ∷ messages) [] mid bytes reply after h one = absurd h
replies_more seat log before (m ∷ messages) (r ∷ replies) mid bytes reply after h one =
    (h.0, h.1, replies_more seat log h.0 messages replies mid bytes reply after h.2 one)
