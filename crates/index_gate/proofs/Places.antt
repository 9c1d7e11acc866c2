-- The same by the places of a list that is gone over, and what is told of errors.
use Rattle.std.specs.Prelude.{ℕ, ◌+◌, ◌≤◌, ◌<◌, true, List, [], ◌∷◌, ◌++◌, length, take, drop, slice_index_or, Result, Ok, Err, IfErr, OnErr}
use Rattle.std.proofs.Common.{◌≡◌, sym, ap, subst, ◌∙◌}
use Rattle.std.proofs.lemmas.List.{take_more, drop_more}
use Rattle.std.proofs.Math.ListN.{drop_of_length-le}
use Rattle.partial_path.specs.PathSets.{FileRules}
use Rattle.path_store.specs.Documents.{Doc}
use Rattle.path_store.specs.Store.{Kept, kept_of}
use Rattle.index_gate.specs.declared.fault.IndexFault.{IndexFault}
use Rattle.index_gate.specs.Indexed.{IsIndexed, HasCause, docs_of, has_doc, missing, IsDocWeight, AreDocWeights}
use Rattle.index_gate.specs.Reading.{Refuses, Adds}
use Rattle.index_gate.proofs.UnderWay.{IsUnderWay, one_more, stopped, few_stopped}

-- what each error tells
pub err_tells : {A : Type 0} (r : Result A IndexFault) (P Q : IndexFault → Type 0) → IfErr r P → ((e : IndexFault) → P e → Q e) → IfErr r Q
err_tells (Ok x) P Q h more = tt
err_tells (Err e) P Q h more = more e h

pub on_err : {A E : Type 0} (r : Result A E) (P : Type 0) → P → OnErr r P
on_err (Ok x) P h = tt
on_err (Err e) P h = h

-- the document at a place is the first of those that are left
first_left : (docs : List Doc) (i : ℕ) (doc : Doc) → i < length docs → doc ≡ slice_index_or docs i doc → drop i docs ≡ doc ∷ drop (i + 1) docs
first_left docs i doc less e = drop_more docs i doc less ∙ ap (λ d. d ∷ drop (i + 1) docs) (sym e)

last_done : (docs : List Doc) (i : ℕ) (doc : Doc) → i < length docs → doc ≡ slice_index_or docs i doc → take (i + 1) docs ≡ take i docs ++ doc ∷ []
last_done docs i doc less e = take_more docs i doc less ∙ ap (λ d. take i docs ++ d ∷ []) (sym e)

pub at_doc : (held docs : List Doc) (i : ℕ) (files : List FileRules) (fresh : List Kept) (before now : ℕ) (doc : Doc)
    → i < length docs → doc ≡ slice_index_or docs i doc
    → IsUnderWay held docs (take i docs) (drop i docs) files fresh before now → IsUnderWay held docs (take i docs) (doc ∷ drop (i + 1) docs) files fresh before now
at_doc held docs i files fresh before now doc less e u = subst (λ ds. IsUnderWay held docs (take i docs) ds files fresh before now) (first_left docs i doc less e) u

pub after_doc : (held docs : List Doc) (i : ℕ) (files : List FileRules) (fresh new : List Kept) (before now after : ℕ) (doc : Doc) (file : FileRules)
    → i < length docs → doc ≡ slice_index_or docs i doc
    → IsUnderWay held docs (take i docs) (drop i docs) files fresh before now → Adds held doc fresh new now after → IsIndexed (kept_of doc file)
    → ((weight : ℕ) → IsDocWeight doc weight → after ≤ now + weight)
    → IsUnderWay held docs (take (i + 1) docs) (drop (i + 1) docs) (files ++ file ∷ []) new before after
after_doc held docs i files fresh new before now after doc file less e u add one few =
    subst (λ ds. IsUnderWay held docs ds (drop (i + 1) docs) (files ++ file ∷ []) new before after) (sym (last_done docs i doc less e))
    (one_more held docs (take i docs) (drop (i + 1) docs) files fresh new before now after doc file (at_doc held docs i files fresh before now doc less e u) add one few)

pub fault_at : (held docs : List Doc) (i : ℕ) (files : List FileRules) (fresh : List Kept) (before now : ℕ) (doc : Doc)
    → i < length docs → doc ≡ slice_index_or docs i doc
    → IsUnderWay held docs (take i docs) (drop i docs) files fresh before now → (why : IndexFault) → Refuses doc why → HasCause docs why
fault_at held docs i files fresh before now doc less e u why r =
    stopped held docs (take i docs) (drop (i + 1) docs) files fresh before now doc why (at_doc held docs i files fresh before now doc less e u) r

pub few_at : (held docs : List Doc) (i : ℕ) (files : List FileRules) (fresh : List Kept) (before now after : ℕ) (doc : Doc)
    → i < length docs → doc ≡ slice_index_or docs i doc
    → IsUnderWay held docs (take i docs) (drop i docs) files fresh before now
    → (has_doc (held ++ docs_of fresh) doc ≡ true → after ≡ now)
    → ((weight : ℕ) → IsDocWeight doc weight → after ≤ now + weight)
    → (total : ℕ) → AreDocWeights (missing held docs) total → after ≤ before + total
few_at held docs i files fresh before now after doc less e u same few =
    few_stopped held docs (take i docs) (drop (i + 1) docs) files fresh before now after doc (at_doc held docs i files fresh before now doc less e u) same few

-- past the last document
pub at_end : (held docs : List Doc) (i : ℕ) (files : List FileRules) (fresh : List Kept) (before now : ℕ) → length docs ≤ i
    → IsUnderWay held docs (take i docs) (drop i docs) files fresh before now → IsUnderWay held docs (take i docs) [] files fresh before now
at_end held docs i files fresh before now end u = subst (λ ds. IsUnderWay held docs (take i docs) ds files fresh before now) (drop_of_length-le docs end) u
