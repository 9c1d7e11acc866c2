-- The body of a log with one entry more.
use Rattle.std.proofs.Common.{◌≡◌, ◌≢◌, ◌⊎◌, ℕ, ◌+◌, ◌<◌, ◌≤◌, ◌^◌, ◌==◌, true, false, not, List, [], ◌∷◌, ◌++◌, length, flat_map, slice_index, set, refl, ap, sym, ◌∙◌, subst, arith, length-append, append-nil, inl, inr, Option}
use Rattle.std.proofs.lemmas.List.{get_or-set_same, get_or-set_other, length-set}
use Rattle.std.proofs.lemmas.List.Elements.{filter-append}
use Rattle.std.proofs.lemmas.List.Concat.{flat_map-append}
use Rattle.std.proofs.lemmas.Bool.Decides.{nat_tests}
use Rattle.std.proofs.lemmas.List.Filters.{length-filter_both}
use Rattle.std.specs.Arc.{arc_value}
use Rattle.version_tree.specs.declared.edit.Edit.{Edit}
use Rattle.version_tree.specs.declared.entry.Entry.{Entry}
use Rattle.version_tree.specs.Contents.{Content, Numbered, edited, edited_all, no_content, replay}
use Rattle.version_board.specs.Logs.{version_of, own, entry}
use Rattle.version_board.specs.declared.board.Pinned.{Pinned}
use Rattle.shared_board.specs.declared.body.Body.{Body}
use Rattle.shared_board.specs.Bodies.{AreCounts, IsBodyOf, IsNext}

edited_all-append : (a b : List Edit) (v : Content) → edited_all (a ++ b) v ≡ edited_all b (edited_all a v)
edited_all-append [] b v = refl
edited_all-append (e ∷ a) b v = edited_all-append a b (edited e v)

replay_push : (log : List Entry) (e : Entry) → replay (log ++ e ∷ []) ≡ edited_all e.edits (replay log)
replay_push log e =
    ap (λ (es : List Edit). edited_all es no_content)
    (flat_map-append (λ (x : Entry). x.edits) log (e ∷ []) ∙ ap (λ (es : List Edit). flat_map (λ (x : Entry). x.edits) log ++ es) (append-nil e.edits))
    ∙ edited_all-append (flat_map (λ (x : Entry). x.edits) log) e.edits no_content

version_push : (log : List Entry) (e : Entry) → version_of (log ++ e ∷ []) ≡ record { number = length log + 1; content = edited_all e.edits (replay log) }
version_push log e = λ i. record { number = length-append log (e ∷ []) i; content = replay_push log e i }

own_same : (k : ℕ) (log : List Entry) (e : Entry) → e.seat ≡ k → own k (log ++ e ∷ []) ≡ own k log ++ e ∷ []
own_same k log e is =
    let t : (e.seat == k) ≡ true = grind (arith, nat_tests) in
    rw (filter-append (λ (x : Entry). x.seat == k) log (e ∷ []), t) refl

own_other : (k : ℕ) (log : List Entry) (e : Entry) → k ≢ e.seat → own k (log ++ e ∷ []) ≡ own k log
own_other k log e is =
    let t : (e.seat == k) ≡ false = grind (arith, nat_tests) in
    rw (filter-append (λ (x : Entry). x.seat == k) log (e ∷ []), t) (append-nil (own k log))

same_or : (k n : ℕ) → (n ≡ k) ⊎ (k ≢ n)
same_or k n = grind arith

count_with : (e : Entry) (cs : List ℕ) (log : List Entry) → ((k : ℕ) → k < length cs → slice_index cs k ≡ length (own k log))
    → (k : ℕ) → k < length cs → (e.seat ≡ k) ⊎ (k ≢ e.seat) → slice_index (set cs e.seat (slice_index cs e.seat + 1)) k ≡ length (own k (log ++ e ∷ []))
count_with e cs log all k less (inl is) =
    rw (own_same k log e is, length-append (own k log) (e ∷ []), is, get_or-set_same cs k (slice_index cs k + 1) 0 less) (ap (λ n. n + 1) (all k less))
count_with e cs log all k less (inr not) =
    rw (own_other k log e not) (get_or-set_other cs e.seat k (slice_index cs e.seat + 1) 0 not ∙ all k less)

counts_with : (e : Entry) (cs : List ℕ) (log : List Entry) → e.seat < length cs → AreCounts cs log → AreCounts (set cs e.seat (slice_index cs e.seat + 1)) (log ++ e ∷ [])
counts_with e cs log named h =
    record {
      each = λ k less. count_with e cs log h.each k (subst (λ m. k < m) (length-set cs e.seat (slice_index cs e.seat + 1)) less) (same_or k e.seat);
      none =
          λ k more.
          let far : length cs ≤ k = subst (λ m. m ≤ k) (length-set cs e.seat (slice_index cs e.seat + 1)) more in
          own_other k log e (omega arith) ∙ h.none k far;
    }

pub body_with : (seats : ℕ) (body next : Body) (log : List Entry) (base : Option ℕ) (seat : ℕ) (edits : List Edit) → IsBodyOf seats body log → seat < seats
    → IsNext base edits (arc_value body.pinned.version) next.pinned
    → next.counts.items ≡ set body.counts.items seat (slice_index body.counts.items seat + 1)
    → IsBodyOf seats next (log ++ entry seat (length (own seat log)) edits ∷ [])
body_with seats body next log base seat edits h less made counts =
    let e : Entry = entry seat (length (own seat log)) edits in
    let is : record { number = (arc_value body.pinned.version).number + 1; content = edited_all edits (arc_value body.pinned.version).content } ≡ version_of (log ++ e ∷ []) =
    ap (λ (v : Numbered). record { number = v.number + 1; content = edited_all edits v.content }) h.pinned.version ∙ sym (version_push log e) in
    record {
      pinned = record { version = made.next.version ∙ is; index = made.next.index };
      counts = subst (λ cs. AreCounts cs (log ++ e ∷ [])) (sym counts) (counts_with e body.counts.items log (omega (arith, less, h.all)) h.counts);
      all = ap length counts ∙ (length-set body.counts.items seat (slice_index body.counts.items seat + 1) ∙ h.all);
    }

own_le : (k : ℕ) (log : List Entry) → length (own k log) ≤ length log
own_le k log = omega (arith, length-filter_both (λ (e : Entry). e.seat == k) (λ (e : Entry). not (e.seat == k)) (λ e. refl) log)

-- a number that the next version has is room enough for one entry more of any seat
pub room_for : (seats : ℕ) (body : Body) (next : Pinned) (log : List Entry) (base : Option ℕ) (seat : ℕ) (edits : List Edit) → IsBodyOf seats body log → seat < seats
    → IsNext base edits (arc_value body.pinned.version) next → (arc_value next.version).number < 2 ^ 32 → slice_index body.counts.items seat + 1 < 2 ^ 32
room_for seats body next log base seat edits h less made few =
    let number : (arc_value next.version).number ≡ (arc_value body.pinned.version).number + 1 = ap (λ (v : Numbered). v.number) made.next.version in
    let head : (arc_value body.pinned.version).number ≡ length log = ap (λ (v : Numbered). v.number) h.pinned.version in
    let count : slice_index body.counts.items seat ≡ length (own seat log) = h.counts.each seat (omega (arith, less, h.all)) in
    omega (arith, number, head, count, own_le seat log, few)
