-- What a log makes with one entry more.
use Rattle.std.proofs.Common.{◌≡◌, ℕ, ◌+◌, ◌==◌, true, List, [], ◌∷◌, ◌++◌, length, refl, ap, ◌∙◌, arith, length-append, append-nil, flat_map}
use Rattle.std.proofs.lemmas.List.Elements.{filter-append}
use Rattle.std.proofs.lemmas.List.Concat.{flat_map-append}
use Rattle.std.proofs.lemmas.Bool.Decides.{nat_tests}
use Rattle.version_tree.specs.declared.edit.Edit.{Edit}
use Rattle.version_tree.specs.declared.entry.Entry.{Entry}
use Rattle.version_tree.specs.Contents.{Content, edited, edited_all, no_content, replay}
use Rattle.version_board.specs.Logs.{version_of, own, entry}

edited_all-append : (a b : List Edit) (v : Content) → edited_all (a ++ b) v ≡ edited_all b (edited_all a v)
edited_all-append [] b v = refl
edited_all-append (e ∷ a) b v = edited_all-append a b (edited e v)

pub replay_push : (log : List Entry) (e : Entry) → replay (log ++ e ∷ []) ≡ edited_all e.edits (replay log)
replay_push log e =
    ap (λ (es : List Edit). edited_all es no_content)
    (flat_map-append (λ (x : Entry). x.edits) log (e ∷ []) ∙ ap (λ (es : List Edit). flat_map (λ (x : Entry). x.edits) log ++ es) (append-nil e.edits))
    ∙ edited_all-append (flat_map (λ (x : Entry). x.edits) log) e.edits no_content

pub version_push : (log : List Entry) (e : Entry) → version_of (log ++ e ∷ []) ≡ record { number = length log + 1; content = edited_all e.edits (replay log) }
version_push log e = λ i. record { number = length-append log (e ∷ []) i; content = replay_push log e i }

self_eq : (n : ℕ) → (n == n) ≡ true
self_eq n = grind (arith, nat_tests)

pub own_push : (log : List Entry) (seat serial : ℕ) (edits : List Edit) → own seat (log ++ entry seat serial edits ∷ []) ≡ own seat log ++ entry seat serial edits ∷ []
own_push log seat serial edits =
    let a = filter-append (λ (e : Entry). e.seat == seat) log (entry seat serial edits ∷ []) in
    rw (a, self_eq seat) refl
