-- What a transcript says over a log, it says over each longer log that begins with it.
use Rattle.std.proofs.Common.{◌≡◌, ℕ, ◌≤◌, ◌⊎◌, inl, inr, zero, suc, List, [], ◌∷◌, ◌++◌, length, take, Option, Some, None, Result, Ok, Err, Bool, true, false, refl, sym, ap, subst, ◌∙◌, arith, length-append, slice_get, MatchBool, MatchOption, MatchResult}
use Rattle.std.proofs.lemmas.List.{take-append-le}
use Rattle.std.proofs.lemmas.Option.{none-some}
use Rattle.partial_path.specs.declared.bounds.Bounds.{Bounds}
use Rattle.version_tree.specs.declared.edit.Edit.{Edit}
use Rattle.version_tree.specs.declared.edit.Edit.TheVariants as edit
use Rattle.version_tree.specs.declared.entry.Entry.{Entry}
use Rattle.version_tree.specs.Contents.{replay, granted_rows}
use Rattle.version_tree.specs.Graphs.{graph_rows}
use Rattle.version_board.specs.Logs.{Begins, own, entry}
use Rattle.nav_answers.specs.declared.found.At.{At}
use Rattle.nav_answers.specs.Replies.{IsDefineReply, IsReferencesReply}
use Rattle.nav_answers.specs.Callers.{IsCallersReply}
use Rattle.nav_proto.specs.declared.proto_fault.ProtoFault.{ProtoFault}
use Rattle.nav_proto.specs.declared.request.FileEdit.{FileEdit}
use Rattle.nav_proto.specs.declared.request.Request.{Request}
use Rattle.nav_proto.specs.declared.request.Request.TheVariants.{Hello, Pin, Commit, Grant, Revoke, Deny, Undeny, Define, References, Callers, Quit}
use Rattle.nav_proto.specs.declared.reply.Reply.{Reply}
use Rattle.nav_proto.specs.declared.reply.Reply.TheVariants.{Plain}
use Rattle.nav_proto.specs.declared.reply.PlainError.TheVariants.{NoUser, Forbidden}
use Rattle.nav_proto.specs.Requests.{request_from}
use Rattle.nav_session.specs.Requests.{is_operator, at_of}
use Rattle.nav_session.specs.Refusals.{fault_reply, verdict}
use Rattle.nav_session.specs.Sessions.{Session, Asker, Sees, Stays, Refuses, Accepts, IsJudged, HasFiles, IsCommitted, QueryReply, Finds, FindsCallers, IfNamed, IfOperator, IsAnswered, IsReplyTo}
use Rattle.nav_session.specs.Sessions as sessions
use Rattle.nav_session.specs.Transcripts.{AreReplies}
use Rattle.nav_session.proofs.Chains.{chain_by}

-- the first entries stay
first_stay : (n : ℕ) (log more : List Entry) → n ≤ length log → take n (log ++ more) ≡ take n log
first_stay n log more within = take-append-le n log more within

there_stay : (n : ℕ) (log more : List Entry) → n ≤ length log → n ≤ length (log ++ more)
there_stay n log more within = let all = length-append log more in omega (arith, within, all)

entry_stays : (log more : List Entry) (n : ℕ) (e : Entry) → slice_get log n ≡ Some e → slice_get (log ++ more) n ≡ Some e
entry_stays [] more n e is = absurd (none-some e is)
entry_stays (x ∷ log) more zero e is = is
entry_stays (x ∷ log) more (suc n) e is = entry_stays log more n e is

sees_longer : (seat : ℕ) (log more : List Entry) (a b : ℕ) → Sees seat log a b → Sees seat (log ++ more) a b
sees_longer seat log more a b s = record {
  no_less = s.no_less;
  there = there_stay b log more s.there;
  own_stay = ap (own seat) (first_stay b log more s.there) ∙ s.own_stay
      ∙ sym (ap (own seat) (first_stay a log more (omega (arith, s.no_less, s.there))));
}

pins_longer : (seat : ℕ) (log more : List Entry) (seen : ℕ) (user : List ℕ) (reply : Reply) (after : Session)
    → sessions.Pins seat log seen user reply after → sessions.Pins seat (log ++ more) seen user reply after
pins_longer seat log more seen user reply after p = record {
  head = p.head;
  sees = sees_longer seat log more seen p.head p.sees;
  told = p.told;
  pinned = p.pinned;
}

refuses_longer : (seat : ℕ) (log more : List Entry) (seen : ℕ) (asker : Asker) (base : Option ℕ) (edits : List Edit) (reply : Reply) (after : Session)
    → Refuses seat log seen asker base edits reply after → Refuses seat (log ++ more) seen asker base edits reply after
refuses_longer seat log more seen asker base edits reply after r = record {
  head = r.head;
  sees = sees_longer seat log more seen r.head r.sees;
  due = ap (λ (l : List Entry). verdict base l edits) (first_stay r.head log more r.sees.there) ∙ r.due;
  same = r.same;
}

accepts_longer : (seat : ℕ) (log more : List Entry) (seen : ℕ) (asker : Asker) (base : Option ℕ) (edits : List Edit) (reply : Reply) (after : Session)
    → Accepts seat log seen asker base edits reply after → Accepts seat (log ++ more) seen asker base edits reply after
accepts_longer seat log more seen asker base edits reply after a =
    let same = first_stay a.head log more a.sees.there in
    record {
      head = a.head;
      sees = sees_longer seat log more seen a.head a.sees;
      due = ap (λ (l : List Entry). verdict base l edits) same ∙ a.due;
      entered = entry_stays log more a.head (entry seat (length (own seat (take a.head log))) edits) a.entered
          ∙ ap (λ (l : List Entry). Some (entry seat (length (own seat l)) edits)) (sym same);
      told = a.told;
      pinned = a.pinned;
    }

judged_longer : (seat : ℕ) (log more : List Entry) (seen : ℕ) (asker : Asker) (base : Option ℕ) (edits : List Edit) (reply : Reply) (after : Session)
    → IsJudged seat log seen asker base edits reply after → IsJudged seat (log ++ more) seen asker base edits reply after
judged_longer seat log more seen asker base edits reply after (inl r) = inl (refuses_longer seat log more seen asker base edits reply after r)
judged_longer seat log more seen asker base edits reply after (inr a) = inr (accepts_longer seat log more seen asker base edits reply after a)

committed_longer : (seat : ℕ) (log more : List Entry) (before : Session) (asker : Asker) (base : Option ℕ) (edits : List FileEdit) (reply : Reply) (after : Session)
    → IsCommitted seat log before asker base edits reply after → IsCommitted seat (log ++ more) before asker base edits reply after
committed_longer seat log more before asker base edits reply after (inl bad) = inl bad
committed_longer seat log more before asker base edits reply after (inr h) = inr (record {
  files = h.files;
  indexed = h.indexed;
  judged = judged_longer seat log more before.seen asker base _ reply after h.judged;
})

finds_longer : (IsReply : QueryReply) (log more : List Entry) (before : Session) (asker : Asker) (path : List ℕ) (at' : At) (bounds : Bounds) (reply : Reply) (after : Session)
    → Finds IsReply log before asker path at' bounds reply after → Finds IsReply (log ++ more) before asker path at' bounds reply after
finds_longer IsReply log more before asker path at' bounds reply after f = record {
  pinned = there_stay asker.pin log more f.pinned;
  found = f.found;
  exact = subst (λ (l : List Entry). IsReply bounds (graph_rows (granted_rows asker.user (replay l))) path at' f.found)
      (sym (first_stay asker.pin log more f.pinned)) f.exact;
  stays = f.stays;
}

callers_longer : (log more : List Entry) (before : Session) (asker : Asker) (path : List ℕ) (at' : At) (reply : Reply) (after : Session)
    → FindsCallers log before asker path at' reply after → FindsCallers (log ++ more) before asker path at' reply after
callers_longer log more before asker path at' reply after f = record {
  pinned = there_stay asker.pin log more f.pinned;
  found = f.found;
  exact = subst (λ (l : List Entry). IsCallersReply (graph_rows (granted_rows asker.user (replay l))) path at' f.found)
      (sym (first_stay asker.pin log more f.pinned)) f.exact;
  stays = f.stays;
}

-- what needs a user or the operator, where more is known of what is replied then
named_map : (o : Option Asker) (A : Type 0) (P Q : Asker → Type 0) → ((a : Asker) → P a → Q a) → MatchOption o A P → MatchOption o A Q
named_map None A P Q f h = h
named_map (Some a) A P Q f h = f a h

bool_map : (b : Bool) (A B P : Type 0) → (A → B) → MatchBool b A P → MatchBool b B P
bool_map true A B P f h = f h
bool_map false A B P f h = h

if_named : (before : Session) (reply : Reply) (after : Session) (P Q : Asker → Type 0) → ((a : Asker) → P a → Q a)
    → IfNamed before reply after P → IfNamed before reply after Q
if_named before reply after P Q f h = named_map before.asker (Stays (Plain NoUser) before reply after) P Q f h

if_operator : (before : Session) (reply : Reply) (after : Session) (P Q : Asker → Type 0) → ((a : Asker) → P a → Q a)
    → IfOperator before reply after P → IfOperator before reply after Q
if_operator before reply after P Q f h =
    let other : Type 0 = Stays (Plain Forbidden) before reply after in
    if_named before reply after (λ a. MatchBool (is_operator a.user) (P a) other) (λ a. MatchBool (is_operator a.user) (Q a) other)
    (λ a m. bool_map (is_operator a.user) (P a) (Q a) other (f a) m) h

ruled_longer : (seat : ℕ) (log more : List Entry) (before : Session) (change : Edit) (reply : Reply) (after : Session)
    → sessions.IsRuled seat log before change reply after → sessions.IsRuled seat (log ++ more) before change reply after
ruled_longer seat log more before change reply after h =
    if_operator before reply after
    (λ asker. IsJudged seat log before.seen asker None (change ∷ []) reply after)
    (λ asker. IsJudged seat (log ++ more) before.seen asker None (change ∷ []) reply after)
    (λ asker j. judged_longer seat log more before.seen asker None (change ∷ []) reply after j) h

pub answered_longer : (seat : ℕ) (log more : List Entry) (before : Session) (request : Request) (reply : Reply) (after : Session)
    → IsAnswered seat log before request reply after → IsAnswered seat (log ++ more) before request reply after
answered_longer seat log more before Quit reply after h = h
answered_longer seat log more before (Hello user) reply after h = pins_longer seat log more before.seen user reply after h
answered_longer seat log more before Pin reply after h =
    if_named before reply after
    (λ (asker : Asker). sessions.Pins seat log before.seen asker.user reply after)
    (λ (asker : Asker). sessions.Pins seat (log ++ more) before.seen asker.user reply after)
    (λ asker p. pins_longer seat log more before.seen asker.user reply after p) h
answered_longer seat log more before (Commit base edits) reply after h =
    if_operator before reply after
    (λ asker. IsCommitted seat log before asker base edits reply after)
    (λ asker. IsCommitted seat (log ++ more) before asker base edits reply after)
    (λ asker c. committed_longer seat log more before asker base edits reply after c) h
answered_longer seat log more before (Grant user prefix) reply after h = ruled_longer seat log more before (edit.Grant user prefix) reply after h
answered_longer seat log more before (Revoke user prefix) reply after h = ruled_longer seat log more before (edit.Revoke user prefix) reply after h
answered_longer seat log more before (Deny user prefix) reply after h = ruled_longer seat log more before (edit.Deny user prefix) reply after h
answered_longer seat log more before (Undeny user prefix) reply after h = ruled_longer seat log more before (edit.Undeny user prefix) reply after h
answered_longer seat log more before (Define path point bounds) reply after h =
    if_named before reply after
    (λ asker. Finds IsDefineReply log before asker path (at_of point) bounds reply after)
    (λ asker. Finds IsDefineReply (log ++ more) before asker path (at_of point) bounds reply after)
    (λ asker f. finds_longer IsDefineReply log more before asker path (at_of point) bounds reply after f) h
answered_longer seat log more before (References path point bounds) reply after h =
    if_named before reply after
    (λ asker. Finds IsReferencesReply log before asker path (at_of point) bounds reply after)
    (λ asker. Finds IsReferencesReply (log ++ more) before asker path (at_of point) bounds reply after)
    (λ asker f. finds_longer IsReferencesReply log more before asker path (at_of point) bounds reply after f) h
answered_longer seat log more before (Callers path point) reply after h =
    if_named before reply after
    (λ asker. FindsCallers log before asker path (at_of point) reply after)
    (λ asker. FindsCallers (log ++ more) before asker path (at_of point) reply after)
    (λ asker f. callers_longer log more before asker path (at_of point) reply after f) h

read_longer : (r : Result Request ProtoFault) (seat : ℕ) (log more : List Entry) (before : Session) (reply : Reply) (after : Session)
    → MatchResult r (λ request. IsAnswered seat log before request reply after) (λ fault. Stays (fault_reply fault) before reply after)
    → MatchResult r (λ request. IsAnswered seat (log ++ more) before request reply after) (λ fault. Stays (fault_reply fault) before reply after)
read_longer (Ok request) seat log more before reply after h = answered_longer seat log more before request reply after h
read_longer (Err fault) seat log more before reply after h = h

reply_longer : (seat : ℕ) (log more : List Entry) (before : Session) (line : List ℕ) (reply : Reply) (after : Session)
    → IsReplyTo seat log before line reply after → IsReplyTo seat (log ++ more) before line reply after
reply_longer seat log more before line reply after h = read_longer (request_from line) seat log more before reply after h

pub replies_longer : (seat : ℕ) (log log' : List Entry) (before : Session) (lines : List (List ℕ)) (replies : List Reply) (after : Session)
    → Begins log log' → AreReplies seat log before lines replies after → AreReplies seat log' before lines replies after
replies_longer seat log log' before lines replies after (more, e) h =
    subst (λ (l : List Entry). AreReplies seat l before lines replies after) e
    (chain_by (IsReplyTo seat log) (IsReplyTo seat (log ++ more)) (reply_longer seat log more) before lines replies after h)
