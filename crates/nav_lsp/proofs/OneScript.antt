-- Over logs of its own entries alone an editor's session has one reply to each message: two such sessions see as much of
-- their logs, pin as much of them, and what they see is alike.
use Rattle.std.proofs.Common.{◌≡◌, ◌∙◌, ℕ, ◌≤◌, Bool, if◌then◌else◌, List, [], ◌∷◌, ◌++◌, take, Option, None, Some, refl, sym, ap, subst, arith}
use Rattle.std.specs.Prelude.{MatchOption}
use Rattle.std.specs.Option.{option_map_or}
use Rattle.version_tree.specs.declared.entry.Entry.{Entry}
use Rattle.version_tree.specs.Graphs.{GraphRow}
use Rattle.version_board.specs.Logs.{own}
use Rattle.nav_proto.specs.declared.request.FileEdit.{FileEdit}
use Rattle.nav_proto.specs.declared.request.FileEdit.TheVariants.{Put, Remove}
use Rattle.nav_proto.specs.declared.request.Request.TheVariants.{Commit}
use Rattle.nav_proto.specs.declared.reply.Reply.{Reply as Answer}
use Rattle.nav_session.specs.Sessions.{Asker, Session, asked_by}
use Rattle.nav_session.specs.Desks.{is_accepted}
use Rattle.nav_session.proofs.OneScript.{Alike, answered_same, same_opened, sees_no_more}
use Rattle.nav_session.proofs.Plain.{alike_views}
use Rattle.lsp_wire.specs.declared.message.Id.{Id}
use Rattle.lsp_wire.specs.declared.message.Asks.{Asks}
use Rattle.lsp_wire.specs.declared.message.Asks.TheVariants.{Initialize, Initialized, Shutdown, Exit, DidOpen, DidChange, DidClose, Definition, References, Unknown, WrongParams}
use Rattle.lsp_wire.specs.declared.message.Body.{Body}
use Rattle.lsp_wire.specs.declared.message.Position.{Position}
use Rattle.lsp_wire.specs.declared.message.Body.TheVariants as body
use Rattle.lsp_wire.specs.declared.reply.Outcome.{Outcome}
use Rattle.lsp_wire.specs.declared.reply.Outcome.TheVariants.{Capabilities, Null}
use Rattle.lsp_wire.specs.declared.reply.Refusal.{Refusal}
use Rattle.lsp_wire.specs.declared.reply.Refusal.TheVariants.{ParseError, InvalidRequest}
use Rattle.lsp_wire.specs.declared.reply.Reply.{Reply}
use Rattle.lsp_wire.specs.Messages.{body_from}
use Rattle.lsp_texts.specs.Texts.{with_text}
use Rattle.lsp_answers.specs.Documents.{path_under}
use Rattle.lsp_answers.specs.Queries.{IsPlaced, TellsDefinitions, TellsReferences}
use Rattle.lsp_answers.proofs.OneOutcome.{one_outcome}
use Rattle.nav_lsp.specs.declared.phase.Phase.{Phase}
use Rattle.nav_lsp.specs.declared.phase.Phase.TheVariants.{Before, Open, Shut}
use Rattle.nav_lsp.specs.Editing.{Editing, begun, files_of, is_shut, opened, operator, shut}
use Rattle.nav_lsp.specs.Replies.{Commits, IsCarriedOut, IsChanged, IsClosed, IsMessage, IsNoted, IsNotified, IsPut, IsQueried, IsReplied, IsRequested, RepliesWith, refusal_of, refused, replied}
use Rattle.nav_lsp.specs.Transcripts.{AreReplies, IsTold}
use Rattle.nav_lsp.specs.Laws.{MessagesHaveOneScript}
use Rattle.nav_lsp.proofs.Apart.{files_apart}

-- two sessions that stand alike
record IsSame (a b : List Entry) (e : Editing) : Type 0 where
  alike : Alike e.seen a b
  pin : e.pin ≤ e.seen

-- what one message makes of both
record StaySame (a b : List Entry) (r q : Option Reply) (t u : Editing) : Type 0 where
  replies : r ≡ q
  sessions : t ≡ u
  same : IsSame a b t

with_same : (a b : List Entry) (due : Option Reply) (next : Editing) (r q : Option Reply) (t u : Editing) → IsSame a b next
    → RepliesWith due next r t → RepliesWith due next q u → StaySame a b r q t u
with_same a b due next r q t u same h k = record {
  replies = h.told ∙ sym k.told;
  sessions = h.becomes ∙ sym k.becomes;
  same = subst (IsSame a b) (sym h.becomes) same;
}

-- the files that both see
same_files : (a b : List Entry) (e : Editing) → IsSame a b e → files_of a e.pin ≡ files_of b e.pin
same_files a b e same = alike_views (take e.pin a) (take e.pin b) operator (same.alike e.pin same.pin)

-- ---- queries

queried_same : (a b : List Entry) (e : Editing) (id : Id) (r q : Option Reply) (t u : Editing) (P Q : Outcome → Type 0) → IsSame a b e
    → ((x y : Outcome) → P x → Q y → x ≡ y) → IsQueried a e id r t P → IsQueried b e id q u Q → StaySame a b r q t u
queried_same a b e id r q t u P Q same one h k =
    let outcome : h.1 ≡ k.1 = one h.1 k.1 h.2 k.2 in
    with_same a b (replied id k.1) e r q t u same
    (record { told = h.3.told ∙ ap (replied id) outcome; becomes = h.3.becomes }) k.3

definition_same : (a b : List Entry) (e : Editing) (id : Id) (uri : List ℕ) (at : Position) (r q : Option Reply) (t u : Editing) → IsSame a b e
    → IsCarriedOut a e id (Definition uri at) r t → IsCarriedOut b e id (Definition uri at) q u → StaySame a b r q t u
definition_same a b e id uri at r q t u same h k =
    queried_same a b e id r q t u
    (IsPlaced e.root e.texts uri at (TellsDefinitions (files_of a e.pin) e.root e.texts))
    (IsPlaced e.root e.texts uri at (TellsDefinitions (files_of b e.pin) e.root e.texts)) same
    (λ x y m n. one_outcome.definitions (files_of b e.pin) e.root e.texts uri at x y
    (subst (λ (files : List GraphRow). IsPlaced e.root e.texts uri at (TellsDefinitions files e.root e.texts) x) (same_files a b e same) m) n)
    h k

references_same : (a b : List Entry) (e : Editing) (id : Id) (uri : List ℕ) (at : Position) (declaration : Bool) (r q : Option Reply) (t u : Editing) → IsSame a b e
    → IsCarriedOut a e id (References uri at declaration) r t → IsCarriedOut b e id (References uri at declaration) q u → StaySame a b r q t u
references_same a b e id uri at declaration r q t u same h k =
    queried_same a b e id r q t u
    (IsPlaced e.root e.texts uri at (TellsReferences (files_of a e.pin) e.root e.texts declaration))
    (IsPlaced e.root e.texts uri at (TellsReferences (files_of b e.pin) e.root e.texts declaration)) same
    (λ x y m n. one_outcome.references (files_of b e.pin) e.root e.texts declaration uri at x y (files_apart b e.pin)
    (subst (λ (files : List GraphRow). IsPlaced e.root e.texts uri at (TellsReferences files e.root e.texts declaration) x) (same_files a b e same) m) n)
    h k

-- ---- requests

phase_only : (a b : List Entry) (e next : Editing) → next.seen ≡ e.seen → next.pin ≡ e.pin → IsSame a b e → IsSame a b next
phase_only a b e next seen pin same = record {
  alike = subst (λ (n : ℕ). Alike n a b) (sym seen) same.alike;
  pin = subst (λ (n : ℕ). next.pin ≤ n) (sym seen) (subst (λ (n : ℕ). n ≤ e.seen) (sym pin) same.pin);
}

carried_same : (a b : List Entry) (e : Editing) (id : Id) (asks : Asks) (r q : Option Reply) (t u : Editing) → IsSame a b e
    → IsCarriedOut a e id asks r t → IsCarriedOut b e id asks q u → StaySame a b r q t u
carried_same a b e id (Initialize root) r q t u same h k =
    with_same a b (replied id Capabilities) (begun root e) r q t u (phase_only a b e (begun root e) refl refl same) h k
carried_same a b e id Initialized r q t u same h k = absurd h
carried_same a b e id Shutdown r q t u same h k = with_same a b (replied id Null) (shut e) r q t u (phase_only a b e (shut e) refl refl same) h k
carried_same a b e id Exit r q t u same h k = absurd h
carried_same a b e id (DidOpen uri text) r q t u same h k = absurd h
carried_same a b e id (DidChange uri text) r q t u same h k = absurd h
carried_same a b e id (DidClose uri) r q t u same h k = absurd h
carried_same a b e id (Definition uri at) r q t u same h k = definition_same a b e id uri at r q t u same h k
carried_same a b e id (References uri at declaration) r q t u same h k = references_same a b e id uri at declaration r q t u same h k
carried_same a b e id Unknown r q t u same h k = absurd h
carried_same a b e id (WrongParams method) r q t u same h k = absurd h

requested_by : (a b : List Entry) (e : Editing) (id : Id) (o : Option Refusal) (r q : Option Reply) (t u : Editing) (P Q : Type 0) → IsSame a b e
    → (P → Q → StaySame a b r q t u)
    → MatchOption o P (λ refusal. RepliesWith (refused (Some id) refusal) e r t)
    → MatchOption o Q (λ refusal. RepliesWith (refused (Some id) refusal) e q u) → StaySame a b r q t u
requested_by a b e id None r q t u P Q same f h k = f h k
requested_by a b e id (Some refusal) r q t u P Q same f h k = with_same a b (refused (Some id) refusal) e r q t u same h k

requested_same : (a b : List Entry) (e : Editing) (id : Id) (asks : Asks) (r q : Option Reply) (t u : Editing) → IsSame a b e
    → IsRequested a e id asks r t → IsRequested b e id asks q u → StaySame a b r q t u
requested_same a b e id asks r q t u same h k =
    requested_by a b e id (refusal_of e.phase asks) r q t u (IsCarriedOut a e id asks r t) (IsCarriedOut b e id asks q u) same
    (λ x y. carried_same a b e id asks r q t u same x y) h k

-- ---- notifications

-- what a session of an editor is, as a session of requests
seen_of : (s s' : ℕ) (p p' : ℕ) → asked_by s operator p ≡ asked_by s' operator p' → s ≡ s'
seen_of s s' p p' e = ap (λ (x : Session). x.seen) e

pin_of : (s s' : ℕ) (p p' : ℕ) → asked_by s operator p ≡ asked_by s' operator p' → p ≡ p'
pin_of s s' p p' e = ap (λ (x : Session). option_map_or (λ (y : Asker). y.pin) x.asker 0) e

same_editing : (t u : Editing) → t.phase ≡ u.phase → t.root ≡ u.root → t.texts ≡ u.texts → t.seen ≡ u.seen → t.pin ≡ u.pin → t ≡ u
same_editing t u phase root texts seen pin = λ i. record { phase = phase i; root = root i; texts = texts i; seen = seen i; pin = pin i }

commits_same : (seat : ℕ) (a b : List Entry) (e : Editing) (path : List ℕ) (edit : FileEdit) (text : Option (List ℕ)) (r q : Option Reply) (t u : Editing)
    → own seat a ≡ a → own seat b ≡ b → IsSame a b e
    → Commits seat a e path edit text r t → Commits seat b e path edit text q u → StaySame a b r q t u
commits_same seat a b e path edit text r q t u oa ob same h k =
    let one = answered_same seat a b (asked_by e.seen operator e.pin) (Commit None (edit ∷ [])) h.answer k.answer
    (asked_by t.seen operator t.pin) (asked_by u.seen operator u.pin) oa ob (record { alike = same.alike; pin = same.pin }) h.committed k.committed in
    let texts : t.texts ≡ u.texts =
    h.texts ∙ ap (λ (x : Answer). if is_accepted x then with_text path text e.texts else e.texts) one.replies ∙ sym k.texts in
    record {
      replies = h.told ∙ sym k.told;
      sessions = same_editing t u (h.same_phase ∙ sym k.same_phase) (h.same_root ∙ sym k.same_root) texts
          (seen_of t.seen u.seen t.pin u.pin one.sessions) (pin_of t.seen u.seen t.pin u.pin one.sessions);
      same = record { alike = one.same.alike; pin = one.same.pin };
    }

inside_by : (a b : List Entry) (e : Editing) (o : Option (List ℕ)) (r q : Option Reply) (t u : Editing) (P Q : List ℕ → Type 0) → IsSame a b e
    → ((path : List ℕ) → P path → Q path → StaySame a b r q t u)
    → MatchOption o (RepliesWith None e r t) P → MatchOption o (RepliesWith None e q u) Q → StaySame a b r q t u
inside_by a b e None r q t u P Q same f h k = with_same a b None e r q t u same h k
inside_by a b e (Some path) r q t u P Q same f h k = f path h k

put_same : (seat : ℕ) (a b : List Entry) (e : Editing) (uri text : List ℕ) (r q : Option Reply) (t u : Editing) → own seat a ≡ a → own seat b ≡ b → IsSame a b e
    → IsPut seat a e uri text r t → IsPut seat b e uri text q u → StaySame a b r q t u
put_same seat a b e uri text r q t u oa ob same h k =
    inside_by a b e (path_under e.root uri) r q t u (λ path. Commits seat a e path (Put path text) (Some text) r t) (λ path. Commits seat b e path (Put path text) (Some text) q u) same
    (λ path x y. commits_same seat a b e path (Put path text) (Some text) r q t u oa ob same x y) h k

closed_same : (seat : ℕ) (a b : List Entry) (e : Editing) (uri : List ℕ) (r q : Option Reply) (t u : Editing) → own seat a ≡ a → own seat b ≡ b → IsSame a b e
    → IsClosed seat a e uri r t → IsClosed seat b e uri q u → StaySame a b r q t u
closed_same seat a b e uri r q t u oa ob same h k =
    inside_by a b e (path_under e.root uri) r q t u (λ path. Commits seat a e path (Remove path) None r t) (λ path. Commits seat b e path (Remove path) None q u) same
    (λ path x y. commits_same seat a b e path (Remove path) None r q t u oa ob same x y) h k

changed_same : (seat : ℕ) (a b : List Entry) (e : Editing) (uri : List ℕ) (text : Option (List ℕ)) (r q : Option Reply) (t u : Editing) → own seat a ≡ a → own seat b ≡ b → IsSame a b e
    → IsChanged seat a e uri text r t → IsChanged seat b e uri text q u → StaySame a b r q t u
changed_same seat a b e uri text r q t u oa ob same h k =
    inside_by a b e text r q t u (λ text. IsPut seat a e uri text r t) (λ text. IsPut seat b e uri text q u) same
    (λ text x y. put_same seat a b e uri text r q t u oa ob same x y) h k

noted_same : (seat : ℕ) (a b : List Entry) (e : Editing) (asks : Asks) (r q : Option Reply) (t u : Editing) → own seat a ≡ a → own seat b ≡ b → IsSame a b e
    → IsNoted seat a e asks r t → IsNoted seat b e asks q u → StaySame a b r q t u
noted_same seat a b e (Initialize root) r q t u oa ob same h k = with_same a b None e r q t u same h k
noted_same seat a b e Initialized r q t u oa ob same h k = with_same a b None e r q t u same h k
noted_same seat a b e Shutdown r q t u oa ob same h k = with_same a b None e r q t u same h k
noted_same seat a b e Exit r q t u oa ob same h k = with_same a b None e r q t u same h k
noted_same seat a b e (DidOpen uri text) r q t u oa ob same h k = put_same seat a b e uri text r q t u oa ob same h k
noted_same seat a b e (DidChange uri text) r q t u oa ob same h k = changed_same seat a b e uri text r q t u oa ob same h k
noted_same seat a b e (DidClose uri) r q t u oa ob same h k = closed_same seat a b e uri r q t u oa ob same h k
noted_same seat a b e (Definition uri at) r q t u oa ob same h k = with_same a b None e r q t u same h k
noted_same seat a b e (References uri at declaration) r q t u oa ob same h k = with_same a b None e r q t u same h k
noted_same seat a b e Unknown r q t u oa ob same h k = with_same a b None e r q t u same h k
noted_same seat a b e (WrongParams method) r q t u oa ob same h k = with_same a b None e r q t u same h k

notified_same : (phase : Phase) (seat : ℕ) (a b : List Entry) (e : Editing) (asks : Asks) (r q : Option Reply) (t u : Editing) → own seat a ≡ a → own seat b ≡ b → IsSame a b e
    → IsNotified phase seat a e asks r t → IsNotified phase seat b e asks q u → StaySame a b r q t u
notified_same Before seat a b e asks r q t u oa ob same h k = with_same a b None e r q t u same h k
notified_same Open seat a b e asks r q t u oa ob same h k = noted_same seat a b e asks r q t u oa ob same h k
notified_same Shut seat a b e asks r q t u oa ob same h k = with_same a b None e r q t u same h k

-- ---- messages

asked_same : (id : Option Id) (seat : ℕ) (a b : List Entry) (e : Editing) (asks : Asks) (r q : Option Reply) (t u : Editing) → own seat a ≡ a → own seat b ≡ b → IsSame a b e
    → IsMessage id seat a e asks r t → IsMessage id seat b e asks q u → StaySame a b r q t u
asked_same None seat a b e asks r q t u oa ob same h k = notified_same e.phase seat a b e asks r q t u oa ob same h k
asked_same (Some id) seat a b e asks r q t u oa ob same h k = requested_same a b e id asks r q t u same h k

body_same : (seat : ℕ) (a b : List Entry) (e : Editing) (read : Body) (r q : Option Reply) (t u : Editing) → own seat a ≡ a → own seat b ≡ b → IsSame a b e
    → IsReplied seat a e read r t → IsReplied seat b e read q u → StaySame a b r q t u
body_same seat a b e body.NotJson r q t u oa ob same h k = with_same a b (refused None ParseError) e r q t u same h k
body_same seat a b e body.Invalid r q t u oa ob same h k = with_same a b (refused None InvalidRequest) e r q t u same h k
body_same seat a b e body.Passed r q t u oa ob same h k = with_same a b None e r q t u same h k
body_same seat a b e (body.Message m) r q t u oa ob same h k = asked_same m.id seat a b e m.asks r q t u oa ob same h k

-- ---- transcripts

-- the replies to the messages that both have
record HaveFirst (more : List (List ℕ)) (rs qs : List (Option Reply)) (t u : Editing) : Type 0 where
  rest : List (Option Reply)
  begin : rs ++ rest ≡ qs
  all : more ≡ [] → (rs ≡ qs) × (t ≡ u)

nothing_more : (seat : ℕ) (b : List Entry) (e : Editing) (more : List (List ℕ)) (qs : List (Option Reply)) (u : Editing) → AreReplies seat b e more qs u → more ≡ [] → ([] ≡ qs) × (e ≡ u)
nothing_more seat b e [] [] u k is = (refl, sym k)
nothing_more seat b e [] (q ∷ qs) u k is = absurd k
nothing_more seat b e (bytes ∷ more) qs u k is = absurd (cc is)

all_more : (r q : Option Reply) (rs qs : List (Option Reply)) (t u : Editing) → r ≡ q → (rs ≡ qs) × (t ≡ u) → (r ∷ rs ≡ q ∷ qs) × (t ≡ u)
all_more r q rs qs t u e h = (ap (λ (x : Option Reply). x ∷ rs) e ∙ ap (λ (xs : List (Option Reply)). q ∷ xs) h.0, h.1)

firsts_same : (seat : ℕ) (a b : List Entry) (e : Editing) (messages more : List (List ℕ)) (rs qs : List (Option Reply)) (t u : Editing) → own seat a ≡ a → own seat b ≡ b → IsSame a b e
    → AreReplies seat a e messages rs t → AreReplies seat b e (messages ++ more) qs u → HaveFirst more rs qs t u
firsts_same seat a b e [] more [] qs t u oa ob same h k = record {
  rest = qs;
  begin = refl;
  all = λ is. let none = nothing_more seat b e more qs u k is in (none.0, h ∙ none.1);
}
firsts_same seat a b e [] more (r ∷ rs) qs t u oa ob same h k = absurd h
firsts_same seat a b e (bytes ∷ messages) more [] qs t u oa ob same h k = absurd h
firsts_same seat a b e (bytes ∷ messages) more (r ∷ rs) [] t u oa ob same h k = absurd k
firsts_same seat a b e (bytes ∷ messages) more (r ∷ rs) (q ∷ qs) t u oa ob same (next, h, hs) (other, k, ks) =
    let one = body_same seat a b e (body_from bytes) r q next other oa ob same h k in
    let rest = firsts_same seat a b next messages more rs qs t u oa ob one.same hs
    (subst (λ (x : Editing). AreReplies seat b x (messages ++ more) qs u) (sym one.sessions) ks) in
    record {
      rest = rest.rest;
      begin = ap (λ (x : Option Reply). x ∷ (rs ++ rest.rest)) one.replies ∙ ap (λ (xs : List (Option Reply)). q ∷ xs) rest.begin;
      all = λ is. all_more r q rs qs t u one.replies (rest.all is);
    }

-- such a session begins with nothing seen
record BeginsEmpty (seat : ℕ) (log : List Entry) (messages : List (List ℕ)) (replies : List (Option Reply)) (shuts : Bool) : Type 0 where
  last : Editing
  replied : AreReplies seat log (opened 0) messages replies last
  is : shuts ≡ is_shut last.phase

begins_empty : (seat : ℕ) (log : List Entry) (messages : List (List ℕ)) (replies : List (Option Reply)) (shuts : Bool) → own seat log ≡ log
    → IsTold seat 0 log messages replies shuts → BeginsEmpty seat log messages replies shuts
begins_empty seat log messages replies shuts all_own h =
    let none : h.transcript.head ≡ 0 = sees_no_more seat 0 h.transcript.head log all_own h.transcript.sees in
    record {
      last = h.transcript.last;
      replied = subst (λ (n : ℕ). AreReplies seat log (opened n) messages replies h.transcript.last) none h.transcript.replied;
      is = h.shuts;
    }

pub one_script : MessagesHaveOneScript
one_script seat log other messages more replies others shuts shuts' oa ob h k =
    let x = begins_empty seat log messages replies shuts oa h in
    let y = begins_empty seat other (messages ++ more) others shuts' ob k in
    let first = firsts_same seat log other (opened 0) messages more replies others x.last y.last oa ob
    (record { alike = (same_opened log other).alike; pin = omega arith }) x.replied y.replied in
    record {
      rest = first.rest;
      begin = first.begin;
      all = λ is. let all = first.all is in (all.0, x.is ∙ ap (λ (e : Editing). is_shut e.phase) all.1 ∙ sym y.is);
    }
