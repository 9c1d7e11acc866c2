-- Over logs of its own entries alone, a session has one reply to each line: two such sessions see as much of their logs,
-- pin as much of them, and what they see is alike.
use Rattle.std.proofs.Common.{◌≡◌, ℕ, zero, suc, ◌+◌, ◌≤◌, ◌<◌, ◌==◌, Bool, true, false, cond, List, [], ◌∷◌, ◌++◌, length, take, map, flat_map, Option, None, Some, Result, Ok, Err, refl, sym, ap, subst, ◌∙◌, arith, inl, inr, if◌then◌else◌, append-nil, slice_get, get_or, leb}
use Rattle.std.specs.Prelude.{◌⊎◌, MatchBool, MatchOption, MatchResult, IfSome}
use Rattle.std.specs.Option.{option_map}
use Rattle.std.proofs.lemmas.List.{take_more, length-take-le, map-append}
use Rattle.std.proofs.lemmas.List.Concat.{flat_map-append}
use Rattle.std.proofs.lemmas.Option.{slice_get_within, get_or_from_slice_get}
use Rattle.std.proofs.lemmas.Bool.Decides.{leb_tells}
use Rattle.list_facts.proofs.Tests.{filter-short}
use Rattle.version_tree.specs.declared.edit.Edit.{Edit}
use Rattle.version_tree.specs.declared.edit.Edit.TheVariants as edit
use Rattle.version_tree.specs.declared.edit.EditFault.{EditFault}
use Rattle.index_gate.specs.declared.fault.FileFault.{FileFault}
use Rattle.version_tree.specs.declared.entry.Entry.{Entry}
use Rattle.version_tree.specs.declared.row.Answer.{Answer}
use Rattle.version_tree.specs.Contents.{replay, granted_rows}
use Rattle.version_tree.specs.Graphs.{GraphEdit, GraphRow, graph_rows}
use Rattle.version_tree.specs.Verdict.{edit_fault}
use Rattle.version_board.specs.Logs.{own, entry}
use Rattle.partial_path.specs.declared.bounds.Bounds.{Bounds}
use Rattle.nav_answers.specs.declared.found.At.{At}
use Rattle.nav_answers.specs.declared.found.AskFault.{AskFault}
use Rattle.nav_answers.specs.Laws.{OneReply, QueriesHaveOneReply, CallersHaveOneReply}
use Rattle.nav_answers.specs.Replies.{IsDefineReply, IsReferencesReply}
use Rattle.nav_answers.proofs.OneReply.{one_callers, one_reply}
use Rattle.nav_proto.specs.declared.proto_fault.ProtoFault.{ProtoFault}
use Rattle.nav_proto.specs.declared.request.FileEdit.{FileEdit}
use Rattle.nav_proto.specs.declared.request.Request.{Request}
use Rattle.nav_proto.specs.declared.request.Request.TheVariants.{Hello, Pin, Commit, Grant, Revoke, Deny, Undeny, Define, References, Callers, Quit}
use Rattle.nav_proto.specs.declared.reply.Reply.{Reply}
use Rattle.nav_proto.specs.declared.reply.Reply.TheVariants.{Version, Stale, Plain, BadFile, Done}
use Rattle.nav_proto.specs.declared.reply.PlainError.TheVariants.{NoUser, Forbidden}
use Rattle.nav_proto.specs.Requests.{request_from}
use Rattle.nav_session.specs.BadFiles.{file_error}
use Rattle.nav_session.specs.Refusals.{callers_reply, edit_reply, fault_reply, is_stale, query_reply, verdict}
use Rattle.nav_session.specs.Requests.{at_of, docs_in, edits_with, is_operator}
use Rattle.nav_session.specs.Sessions.{Asker, Session, Sees, Stays, Pins, Refuses, Accepts, IsJudged, IsRuled, IsCommitted, Finds, FindsCallers, QueryReply, IsAnswered, asked_by, opened}
use Rattle.nav_session.specs.Transcripts.{AreReplies, IsTranscript}
use Rattle.nav_session.specs.Laws.{FirstLinesHaveOneScript, LinesHaveOneScript}
use Rattle.nav_session.proofs.Alike.{alike_edits, fault_or_files, one_first_fault}
use Rattle.nav_session.proofs.Plain.{alike_faults, alike_views, plain_edit, plain_log}

-- a beginning of a log of own entries has own entries
tail_of : (x y : Entry) (xs ys : List Entry) → x ∷ xs ≡ y ∷ ys → xs ≡ ys
tail_of x y xs ys e = cc

own_if : (seat n : ℕ) (x : Entry) (log : List Entry) (b : Bool) → cond b (x ∷ own seat log) (own seat log) ≡ x ∷ log
    → (own seat log ≡ log → own seat (take n log) ≡ take n log)
    → cond b (x ∷ own seat (take n log)) (own seat (take n log)) ≡ x ∷ take n log
own_if seat n x log true e r = ap (λ (es : List Entry). x ∷ es) (r (tail_of x x (own seat log) log e))
own_if seat n x log false e r =
    let long = ap length e in let short = filter-short (λ (y : Entry). y.seat == seat) log in absurd (omega (arith, long, short))

own_takes : (seat n : ℕ) (log : List Entry) → own seat log ≡ log → own seat (take n log) ≡ take n log
own_takes seat zero log e = refl
own_takes seat (suc n) [] e = refl
own_takes seat (suc n) (x ∷ log) e = own_if seat n x log (x.seat == seat) e (λ h. own_takes seat n log h)

-- so a session sees no more than it has seen
pub sees_no_more : (seat a b : ℕ) (log : List Entry) → own seat log ≡ log → Sees seat log a b → b ≡ a
sees_no_more seat a b log e s =
    let more = s.no_less in
    let there = s.there in
    let long : length (take b log) ≡ b = length-take-le b log there in
    let short : length (take a log) ≡ a = length-take-le a log (omega (arith, more, there)) in
    sym long ∙ ap length (sym (own_takes seat b log e) ∙ s.own_stay ∙ own_takes seat a log e) ∙ short

-- logs whose first entries are alike, how many of so many one takes
abbrev pub Alike : ℕ → List Entry → List Entry → Type 0
Alike n a b = (k : ℕ) → k ≤ n → plain_log (take k a) ≡ plain_log (take k b)

plain_push : (log : List Entry) (x : Entry) → plain_log (log ++ x ∷ []) ≡ plain_log log ++ map plain_edit x.edits
plain_push log x =
    ap (map plain_edit) (flat_map-append (λ (e : Entry). e.edits) log (x ∷ []) ∙ ap (λ (es : List Edit). flat_map (λ (e : Entry). e.edits) log ++ es) (append-nil x.edits))
    ∙ map-append plain_edit (flat_map (λ (e : Entry). e.edits) log) x.edits

taken_push : (log : List Entry) (n : ℕ) (x : Entry) → slice_get log n ≡ Some x → take (n + 1) log ≡ take n log ++ x ∷ []
taken_push log n x e =
    take_more log n x (slice_get_within log n x e) ∙ ap (λ (y : Entry). take n log ++ y ∷ []) (get_or_from_slice_get log n x x e)

alike_push : (a b : List Entry) (n : ℕ) (x y : Entry) → Alike n a b → slice_get a n ≡ Some x → slice_get b n ≡ Some y
    → map plain_edit x.edits ≡ map plain_edit y.edits → plain_log (take (n + 1) a) ≡ plain_log (take (n + 1) b)
alike_push a b n x y alike e f same =
    ap plain_log (taken_push a n x e) ∙ plain_push (take n a) x
    ∙ ap (λ (es : List (GraphEdit × ℕ)). es ++ map plain_edit x.edits) (alike n (omega arith))
    ∙ ap (λ (es : List (GraphEdit × ℕ)). plain_log (take n b) ++ es) same
    ∙ sym (ap plain_log (taken_push b n y f) ∙ plain_push (take n b) y)

next_alike : (a b : List Entry) (n : ℕ) → Alike n a b → plain_log (take (n + 1) a) ≡ plain_log (take (n + 1) b) → Alike (n + 1) a b
next_alike a b n alike last k low = next_if (leb_tells k n)
  where
    next_if : ((leb k n ≡ true) × (k ≤ n)) ⊎ ((leb k n ≡ false) × (n < k)) → plain_log (take k a) ≡ plain_log (take k b)
    next_if (inl h) = alike k h.1
    next_if (inr h) = let above = h.1 in let is : n + 1 ≡ k = omega (arith, above, low) in subst (λ (j : ℕ). plain_log (take j a) ≡ plain_log (take j b)) is last

-- two sessions that stand alike
pub record IsSame (a b : List Entry) (s : Session) : Type 0 where
  pub alike : Alike s.seen a b
  pub pin : IfSome s.asker (λ asker. asker.pin ≤ s.seen)

-- what one line makes of both
pub record StaySame (a b : List Entry) (r q : Reply) (t u : Session) : Type 0 where
  pub replies : r ≡ q
  pub sessions : t ≡ u
  pub same : IsSame a b t

stays_same : (a b : List Entry) (s : Session) (told : Reply) (r q : Reply) (t u : Session) → IsSame a b s → Stays told s r t → Stays told s q u → StaySame a b r q t u
stays_same a b s told r q t u same h k = record {
  replies = h.told ∙ sym k.told;
  sessions = h.same ∙ sym k.same;
  same = subst (IsSame a b) (sym h.same) same;
}

same_at : (a b : List Entry) (n m : ℕ) (user : List ℕ) (pin : ℕ) → n ≡ m → pin ≤ m → Alike m a b → IsSame a b (asked_by n user pin)
same_at a b n m user pin e low alike = record {
  alike = subst (λ (j : ℕ). Alike j a b) (sym e) alike;
  pin = omega (arith, e, low);
}

pins_same : (seat : ℕ) (a b : List Entry) (s : Session) (user : List ℕ) (r q : Reply) (t u : Session)
    → own seat a ≡ a → own seat b ≡ b → IsSame a b s → Pins seat a s.seen user r t → Pins seat b s.seen user q u → StaySame a b r q t u
pins_same seat a b s user r q t u oa ob same h k =
    let e = sees_no_more seat s.seen h.head a oa h.sees in
    let f = sees_no_more seat s.seen k.head b ob k.sees in
    let heads : h.head ≡ k.head = e ∙ sym f in
    record {
      replies = h.told ∙ ap Version heads ∙ sym k.told;
      sessions = h.pinned ∙ ap (λ (n : ℕ). asked_by n user n) heads ∙ sym k.pinned;
      same = subst (IsSame a b) (sym h.pinned) (same_at a b h.head s.seen user h.head e (omega (arith, e)) same.alike);
    }

-- the verdict on alike edits
verdict_at : (base : Option ℕ) (log : List Entry) (es : List Edit) (n : ℕ) → length log ≡ n
    → verdict base log es ≡ (if is_stale base n then Some (Stale n) else option_map edit_reply (edit_fault n (replay log) es))
verdict_at base log es n e =
    ap (λ (k : ℕ). if is_stale base k then Some (Stale k) else option_map edit_reply (edit_fault k (replay log) es)) e

same_verdict : (base : Option ℕ) (a b : List Entry) (es fs : List Edit) (n : ℕ) → n ≤ length a → n ≤ length b
    → plain_log (take n a) ≡ plain_log (take n b) → map plain_edit es ≡ map plain_edit fs → verdict base (take n a) es ≡ verdict base (take n b) fs
same_verdict base a b es fs n la lb e f =
    verdict_at base (take n a) es n (length-take-le n a la)
    ∙ ap (λ (o : Option EditFault). if is_stale base n then Some (Stale n) else option_map edit_reply o) (alike_faults (take n a) (take n b) n es fs e f)
    ∙ sym (verdict_at base (take n b) fs n (length-take-le n b lb))

same_some : (r q : Reply) (x y : Option Reply) → x ≡ y → x ≡ Some r → y ≡ Some q → r ≡ q
same_some r q x y e f g = cc

not_none : (r : Reply) (x y : Option Reply) → x ≡ y → x ≡ Some r → y ≡ None → ⊥
not_none r x y e f g = cc

-- what a board's judgement is where no more is seen
record RefusedAt (log : List Entry) (n : ℕ) (asker : Asker) (base : Option ℕ) (es : List Edit) (r : Reply) (t : Session) : Type 0 where
  there : n ≤ length log
  due : verdict base (take n log) es ≡ Some r
  same : t ≡ asked_by n asker.user asker.pin

record AcceptedAt (seat : ℕ) (log : List Entry) (n : ℕ) (asker : Asker) (base : Option ℕ) (es : List Edit) (r : Reply) (t : Session) : Type 0 where
  there : n ≤ length log
  due : verdict base (take n log) es ≡ None
  entered : slice_get log n ≡ Some (entry seat (length (own seat (take n log))) es)
  told : r ≡ Version (n + 1)
  pinned : t ≡ asked_by (n + 1) asker.user (n + 1)

refused_at : (seat : ℕ) (log : List Entry) (n : ℕ) (asker : Asker) (base : Option ℕ) (es : List Edit) (r : Reply) (t : Session)
    → own seat log ≡ log → Refuses seat log n asker base es r t → RefusedAt log n asker base es r t
refused_at seat log n asker base es r t o h =
    let e = sees_no_more seat n h.head log o h.sees in
    subst (λ (m : ℕ). RefusedAt log m asker base es r t) e (record { there = h.sees.there; due = h.due; same = h.same })

accepted_at : (seat : ℕ) (log : List Entry) (n : ℕ) (asker : Asker) (base : Option ℕ) (es : List Edit) (r : Reply) (t : Session)
    → own seat log ≡ log → Accepts seat log n asker base es r t → AcceptedAt seat log n asker base es r t
accepted_at seat log n asker base es r t o h =
    let e = sees_no_more seat n h.head log o h.sees in
    subst (λ (m : ℕ). AcceptedAt seat log m asker base es r t) e
    (record { there = h.sees.there; due = h.due; entered = h.entered; told = h.told; pinned = h.pinned })

judged_same : (seat : ℕ) (a b : List Entry) (n : ℕ) (asker : Asker) (base : Option ℕ) (es fs : List Edit) (r q : Reply) (t u : Session)
    → own seat a ≡ a → own seat b ≡ b → Alike n a b → asker.pin ≤ n → map plain_edit es ≡ map plain_edit fs
    → IsJudged seat a n asker base es r t → IsJudged seat b n asker base fs q u → StaySame a b r q t u
judged_same seat a b n asker base es fs r q t u oa ob alike low edits (inl h) (inl k) =
    let x = refused_at seat a n asker base es r t oa h in
    let y = refused_at seat b n asker base fs q u ob k in
    let v = same_verdict base a b es fs n x.there y.there (alike n (omega arith)) edits in
    record {
      replies = same_some r q (verdict base (take n a) es) (verdict base (take n b) fs) v x.due y.due;
      sessions = x.same ∙ sym y.same;
      same = subst (IsSame a b) (sym x.same) (same_at a b n n asker.user asker.pin refl low alike);
    }
judged_same seat a b n asker base es fs r q t u oa ob alike low edits (inl h) (inr k) =
    let x = refused_at seat a n asker base es r t oa h in
    let y = accepted_at seat b n asker base fs q u ob k in
    let v = same_verdict base a b es fs n x.there y.there (alike n (omega arith)) edits in
    absurd (not_none r (verdict base (take n a) es) (verdict base (take n b) fs) v x.due y.due)
judged_same seat a b n asker base es fs r q t u oa ob alike low edits (inr h) (inl k) =
    let x = accepted_at seat a n asker base es r t oa h in
    let y = refused_at seat b n asker base fs q u ob k in
    let v = same_verdict base a b es fs n x.there y.there (alike n (omega arith)) edits in
    absurd (not_none q (verdict base (take n b) fs) (verdict base (take n a) es) (sym v) y.due x.due)
judged_same seat a b n asker base es fs r q t u oa ob alike low edits (inr h) (inr k) =
    let x = accepted_at seat a n asker base es r t oa h in
    let y = accepted_at seat b n asker base fs q u ob k in
    let last = alike_push a b n (entry seat (length (own seat (take n a))) es) (entry seat (length (own seat (take n b))) fs) alike x.entered y.entered edits in
    record {
      replies = x.told ∙ sym y.told;
      sessions = x.pinned ∙ sym y.pinned;
      same = subst (IsSame a b) (sym x.pinned) (same_at a b (n + 1) (n + 1) asker.user (n + 1) refl (omega arith) (next_alike a b n alike last));
    }

committed_same : (seat : ℕ) (a b : List Entry) (s : Session) (asker : Asker) (base : Option ℕ) (edits : List FileEdit) (r q : Reply) (t u : Session)
    → own seat a ≡ a → own seat b ≡ b → IsSame a b s → asker.pin ≤ s.seen
    → IsCommitted seat a s asker base edits r t → IsCommitted seat b s asker base edits q u → StaySame a b r q t u
committed_same seat a b s asker base edits r q t u oa ob same low (inl h) (inl k) =
    let one = one_first_fault (docs_in edits) h.path k.path h.fault k.fault h.first k.first in
    let told : BadFile h.path (file_error h.fault) ≡ BadFile k.path (file_error k.fault) =
    ap (λ (p : List ℕ). BadFile p (file_error h.fault)) one.0 ∙ ap (λ (f : FileFault). BadFile k.path (file_error f)) one.1 in
    stays_same a b s (BadFile k.path (file_error k.fault)) r q t u same (record { told = h.stays.told ∙ told; same = h.stays.same }) k.stays
committed_same seat a b s asker base edits r q t u oa ob same low (inl h) (inr k) =
    absurd (fault_or_files (docs_in edits) h.path h.fault k.files h.first k.indexed)
committed_same seat a b s asker base edits r q t u oa ob same low (inr h) (inl k) =
    absurd (fault_or_files (docs_in edits) k.path k.fault h.files k.first h.indexed)
committed_same seat a b s asker base edits r q t u oa ob same low (inr h) (inr k) =
    judged_same seat a b s.seen asker base (edits_with edits h.files) (edits_with edits k.files) r q t u oa ob same.alike low
    (alike_edits edits h.files k.files h.indexed k.indexed) h.judged k.judged

finds_same : (IsReply : QueryReply) (a b : List Entry) (s : Session) (asker : Asker) (path : List ℕ) (at : At) (bounds : Bounds) (r q : Reply) (t u : Session)
    → OneReply IsReply → IsSame a b s → asker.pin ≤ s.seen
    → Finds IsReply a s asker path at bounds r t → Finds IsReply b s asker path at bounds q u → StaySame a b r q t u
finds_same IsReply a b s asker path at bounds r q t u law same low h k =
    let rows = alike_views (take asker.pin a) (take asker.pin b) asker.user (same.alike asker.pin low) in
    let one : h.found ≡ k.found = law bounds (graph_rows (granted_rows asker.user (replay (take asker.pin a))))
    (graph_rows (granted_rows asker.user (replay (take asker.pin b)))) path at h.found k.found rows h.exact k.exact in
    stays_same a b s (query_reply k.found) r q t u same (record { told = h.stays.told ∙ ap query_reply one; same = h.stays.same }) k.stays

callers_same : (a b : List Entry) (s : Session) (asker : Asker) (path : List ℕ) (at : At) (r q : Reply) (t u : Session)
    → CallersHaveOneReply → IsSame a b s → asker.pin ≤ s.seen
    → FindsCallers a s asker path at r t → FindsCallers b s asker path at q u → StaySame a b r q t u
callers_same a b s asker path at r q t u law same low h k =
    let rows = alike_views (take asker.pin a) (take asker.pin b) asker.user (same.alike asker.pin low) in
    let one : h.found ≡ k.found = law (graph_rows (granted_rows asker.user (replay (take asker.pin a))))
    (graph_rows (granted_rows asker.user (replay (take asker.pin b)))) path at h.found k.found rows h.exact k.exact in
    stays_same a b s (callers_reply k.found) r q t u same (record { told = h.stays.told ∙ ap callers_reply one; same = h.stays.same }) k.stays

-- that a query has one reply, and `callers` too
record Laws : Type 0 where
  queries : QueriesHaveOneReply
  callers : CallersHaveOneReply

-- what needs a user, and what needs the operator
named_same : (a b : List Entry) (s : Session) (o : Option Asker) (r q : Reply) (t u : Session) (P Q : Asker → Type 0)
    → IsSame a b s → IfSome o (λ asker. asker.pin ≤ s.seen)
    → ((asker : Asker) → asker.pin ≤ s.seen → P asker → Q asker → StaySame a b r q t u)
    → MatchOption o (Stays (Plain NoUser) s r t) P → MatchOption o (Stays (Plain NoUser) s q u) Q → StaySame a b r q t u
named_same a b s None r q t u P Q same low f h k = stays_same a b s (Plain NoUser) r q t u same h k
named_same a b s (Some asker) r q t u P Q same low f h k = f asker low h k

operator_same : (a b : List Entry) (s : Session) (yes : Bool) (r q : Reply) (t u : Session) (P Q : Type 0)
    → IsSame a b s → (P → Q → StaySame a b r q t u)
    → MatchBool yes P (Stays (Plain Forbidden) s r t) → MatchBool yes Q (Stays (Plain Forbidden) s q u) → StaySame a b r q t u
operator_same a b s true r q t u P Q same f h k = f h k
operator_same a b s false r q t u P Q same f h k = stays_same a b s (Plain Forbidden) r q t u same h k

-- a change of who may see what
ruled_same : (seat : ℕ) (a b : List Entry) (s : Session) (change : Edit) (r q : Reply) (t u : Session)
    → own seat a ≡ a → own seat b ≡ b → IsSame a b s → IsRuled seat a s change r t → IsRuled seat b s change q u → StaySame a b r q t u
ruled_same seat a b s change r q t u oa ob same h k =
    named_same a b s s.asker r q t u
    (λ asker. MatchBool (is_operator asker.user) (IsJudged seat a s.seen asker None (change ∷ []) r t) (Stays (Plain Forbidden) s r t))
    (λ asker. MatchBool (is_operator asker.user) (IsJudged seat b s.seen asker None (change ∷ []) q u) (Stays (Plain Forbidden) s q u))
    same same.pin
    (λ asker low x y. operator_same a b s (is_operator asker.user) r q t u
    (IsJudged seat a s.seen asker None (change ∷ []) r t) (IsJudged seat b s.seen asker None (change ∷ []) q u) same
    (λ j l. judged_same seat a b s.seen asker None (change ∷ []) (change ∷ []) r q t u oa ob same.alike low refl j l) x y)
    h k

-- one request
request_same : Laws → (seat : ℕ) (a b : List Entry) (s : Session) (request : Request) (r q : Reply) (t u : Session)
    → own seat a ≡ a → own seat b ≡ b → IsSame a b s → IsAnswered seat a s request r t → IsAnswered seat b s request q u → StaySame a b r q t u
request_same laws seat a b s Quit r q t u oa ob same h k = stays_same a b s Done r q t u same h k
request_same laws seat a b s (Hello user) r q t u oa ob same h k = pins_same seat a b s user r q t u oa ob same h k
request_same laws seat a b s Pin r q t u oa ob same h k =
    named_same a b s s.asker r q t u (λ asker. Pins seat a s.seen asker.user r t) (λ asker. Pins seat b s.seen asker.user q u) same same.pin
    (λ asker low x y. pins_same seat a b s asker.user r q t u oa ob same x y) h k
request_same laws seat a b s (Commit base edits) r q t u oa ob same h k =
    named_same a b s s.asker r q t u
    (λ asker. MatchBool (is_operator asker.user) (IsCommitted seat a s asker base edits r t) (Stays (Plain Forbidden) s r t))
    (λ asker. MatchBool (is_operator asker.user) (IsCommitted seat b s asker base edits q u) (Stays (Plain Forbidden) s q u))
    same same.pin
    (λ asker low x y. operator_same a b s (is_operator asker.user) r q t u
    (IsCommitted seat a s asker base edits r t) (IsCommitted seat b s asker base edits q u) same
    (λ j l. committed_same seat a b s asker base edits r q t u oa ob same low j l) x y)
    h k
request_same laws seat a b s (Grant user prefix) r q t u oa ob same h k = ruled_same seat a b s (edit.Grant user prefix) r q t u oa ob same h k
request_same laws seat a b s (Revoke user prefix) r q t u oa ob same h k = ruled_same seat a b s (edit.Revoke user prefix) r q t u oa ob same h k
request_same laws seat a b s (Deny user prefix) r q t u oa ob same h k = ruled_same seat a b s (edit.Deny user prefix) r q t u oa ob same h k
request_same laws seat a b s (Undeny user prefix) r q t u oa ob same h k = ruled_same seat a b s (edit.Undeny user prefix) r q t u oa ob same h k
request_same laws seat a b s (Define path point bounds) r q t u oa ob same h k =
    named_same a b s s.asker r q t u
    (λ asker. Finds IsDefineReply a s asker path (at_of point) bounds r t) (λ asker. Finds IsDefineReply b s asker path (at_of point) bounds q u) same same.pin
    (λ asker low x y. finds_same IsDefineReply a b s asker path (at_of point) bounds r q t u laws.queries.define same low x y) h k
request_same laws seat a b s (References path point bounds) r q t u oa ob same h k =
    named_same a b s s.asker r q t u
    (λ asker. Finds IsReferencesReply a s asker path (at_of point) bounds r t) (λ asker. Finds IsReferencesReply b s asker path (at_of point) bounds q u) same same.pin
    (λ asker low x y. finds_same IsReferencesReply a b s asker path (at_of point) bounds r q t u laws.queries.references same low x y) h k
request_same laws seat a b s (Callers path point) r q t u oa ob same h k =
    named_same a b s s.asker r q t u
    (λ asker. FindsCallers a s asker path (at_of point) r t) (λ asker. FindsCallers b s asker path (at_of point) q u) same same.pin
    (λ asker low x y. callers_same a b s asker path (at_of point) r q t u laws.callers same low x y) h k

-- the same for callers
pub answered_same : (seat : ℕ) (a b : List Entry) (s : Session) (request : Request) (r q : Reply) (t u : Session)
    → own seat a ≡ a → own seat b ≡ b → IsSame a b s → IsAnswered seat a s request r t → IsAnswered seat b s request q u → StaySame a b r q t u
answered_same = request_same (record { queries = one_reply; callers = one_callers })

-- one line
line_same : Laws → (seat : ℕ) (a b : List Entry) (s : Session) (read : Result Request ProtoFault) (r q : Reply) (t u : Session)
    → own seat a ≡ a → own seat b ≡ b → IsSame a b s
    → MatchResult read (λ request. IsAnswered seat a s request r t) (λ fault. Stays (fault_reply fault) s r t)
    → MatchResult read (λ request. IsAnswered seat b s request q u) (λ fault. Stays (fault_reply fault) s q u) → StaySame a b r q t u
line_same laws seat a b s (Ok request) r q t u oa ob same h k = request_same laws seat a b s request r q t u oa ob same h k
line_same laws seat a b s (Err fault) r q t u oa ob same h k = stays_same a b s (fault_reply fault) r q t u same h k

all_same : Laws → (seat : ℕ) (a b : List Entry) (s : Session) (lines : List (List ℕ)) (rs qs : List Reply) (t u : Session)
    → own seat a ≡ a → own seat b ≡ b → IsSame a b s → AreReplies seat a s lines rs t → AreReplies seat b s lines qs u → rs ≡ qs
all_same laws seat a b s [] [] [] t u oa ob same h k = refl
all_same laws seat a b s [] [] (q ∷ qs) t u oa ob same h k = absurd k
all_same laws seat a b s [] (r ∷ rs) qs t u oa ob same h k = absurd h
all_same laws seat a b s (line ∷ lines) [] qs t u oa ob same h k = absurd h
all_same laws seat a b s (line ∷ lines) (r ∷ rs) [] t u oa ob same h k = absurd k
all_same laws seat a b s (line ∷ lines) (r ∷ rs) (q ∷ qs) t u oa ob same (next, h, hs) (other, k, ks) =
    let one = line_same laws seat a b s (request_from line) r q next other oa ob same h k in
    let rest = all_same laws seat a b next lines rs qs t u oa ob one.same hs (subst (λ (x : Session). AreReplies seat b x lines qs u) (sym one.sessions) ks) in
    ap (λ (x : Reply). x ∷ rs) one.replies ∙ ap (λ (xs : List Reply). q ∷ xs) rest

-- the lines that both have, where the one has more
firsts_same : Laws → (seat : ℕ) (a b : List Entry) (s : Session) (lines more : List (List ℕ)) (rs qs : List Reply) (t u : Session)
    → own seat a ≡ a → own seat b ≡ b → IsSame a b s → AreReplies seat a s lines rs t → AreReplies seat b s (lines ++ more) qs u
    → (rest : List Reply) × (rs ++ rest ≡ qs)
firsts_same laws seat a b s [] more [] qs t u oa ob same h k = (qs, refl)
firsts_same laws seat a b s [] more (r ∷ rs) qs t u oa ob same h k = absurd h
firsts_same laws seat a b s (line ∷ lines) more [] qs t u oa ob same h k = absurd h
firsts_same laws seat a b s (line ∷ lines) more (r ∷ rs) [] t u oa ob same h k = absurd k
firsts_same laws seat a b s (line ∷ lines) more (r ∷ rs) (q ∷ qs) t u oa ob same (next, h, hs) (other, k, ks) =
    let one = line_same laws seat a b s (request_from line) r q next other oa ob same h k in
    let rest = firsts_same laws seat a b next lines more rs qs t u oa ob one.same hs
    (subst (λ (x : Session). AreReplies seat b x (lines ++ more) qs u) (sym one.sessions) ks) in
    (rest.0, ap (λ (x : Reply). x ∷ (rs ++ rest.0)) one.replies ∙ ap (λ (xs : List Reply). q ∷ xs) rest.1)

none_taken : (k : ℕ) (a b : List Entry) → k ≡ 0 → plain_log (take k a) ≡ plain_log (take k b)
none_taken k a b e = subst (λ (n : ℕ). plain_log (take n a) ≡ plain_log (take n b)) (sym e) refl

-- nothing is seen of either log at first
pub same_opened : (a b : List Entry) → IsSame a b (opened 0)
same_opened a b = record { alike = (λ n low. none_taken n a b (omega (arith, low))); pin = tt }

pub one_script : QueriesHaveOneReply → CallersHaveOneReply → LinesHaveOneScript
one_script queries callers seat log other lines replies others oa ob h k =
    all_same (record { queries = queries; callers = callers }) seat log other (opened 0) lines replies others h.last k.last oa ob (same_opened log other) h.replied k.replied

pub one_beginning : QueriesHaveOneReply → CallersHaveOneReply → FirstLinesHaveOneScript
one_beginning queries callers seat log other lines more replies others oa ob h k =
    firsts_same (record { queries = queries; callers = callers }) seat log other (opened 0) lines more replies others h.last k.last oa ob (same_opened log other) h.replied k.replied
