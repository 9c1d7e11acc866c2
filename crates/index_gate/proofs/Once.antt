-- Documents that were added are missing no more; a document has at most one fault.
use Rattle.std.specs.Prelude.{ℕ, Bool, true, false, cond, List, [], ◌∷◌, ◌++◌, length, drop, Result, Ok, Err}
use Rattle.std.proofs.Common.{◌≡◌, refl, sym, ap, subst, ◌∙◌, inl, inr}
use Rattle.std.proofs.lemmas.List.{append_assoc, append-nil}
use Rattle.std.proofs.Math.Seq.{drop-append_seam}
use Rattle.graph_nodes.specs.Graph.{Graph}
use Rattle.partial_path.specs.Walks.{IsHeavier}
use Rattle.file_paths.specs.Finds.{max_weight}
use Rattle.path_store.specs.Documents.{Doc}
use Rattle.path_store.specs.Store.{Kept}
use Rattle.index_gate.specs.declared.fault.FileFault.{FileFault}
use Rattle.index_gate.specs.Graphs.{graph_of_doc}
use Rattle.index_gate.specs.Indexed.{HasFault, HasNoFault, has_doc, missing, docs_of, AddsMissing, CountsAllWalks}
use Rattle.index_gate.proofs.Held.{docs_both, has_left, has_right, has_itself}
use Rattle.index_gate.proofs.Missing.{missing_if}

-- each of the documents is held, or among those that are missing
passed_if : (b : Bool) (all docs : List Doc) (doc : Doc) → has_doc all doc ≡ true → missing all docs ≡ [] → missing all (doc ∷ docs) ≡ []
passed_if b all docs doc e none = rw e none

held_if : (b : Bool) (held docs : List Doc) (doc : Doc) → has_doc held doc ≡ b
    → missing (held ++ missing held docs) docs ≡ []
    → missing ((held ++ doc ∷ []) ++ missing (held ++ doc ∷ []) docs) docs ≡ []
    → missing (held ++ cond b (missing held docs) (doc ∷ missing (held ++ doc ∷ []) docs)) (doc ∷ docs) ≡ []
held_if true held docs doc e none more = passed_if true (held ++ missing held docs) docs doc (has_left held (missing held docs) doc e) none
held_if false held docs doc e none more =
    let rest = missing (held ++ doc ∷ []) docs in
    passed_if true (held ++ doc ∷ rest) docs doc (has_right held (doc ∷ rest) doc (has_itself doc rest))
    (subst (λ ds. missing ds docs ≡ []) (append_assoc held (doc ∷ []) rest) more)

pub added_held : (held docs : List Doc) → missing (held ++ missing held docs) docs ≡ []
added_held held [] = refl
added_held held (doc ∷ docs) =
    subst (λ ds. missing (held ++ ds) (doc ∷ docs) ≡ []) (sym (missing_if (has_doc held doc) held docs doc refl))
    (held_if (has_doc held doc) held docs doc refl (added_held held docs) (added_held (held ++ doc ∷ []) docs))

same_fault : (a b : FileFault) (r : Result Graph FileFault) → r ≡ Err a → r ≡ Err b → a ≡ b
same_fault a b r e f = cc

no_fault : (a : FileFault) (g : Graph) (r : Result Graph FileFault) → r ≡ Err a → r ≡ Ok g → ⊥
no_fault a g r e f = cc

same_graph : (g h : Graph) (r : Result Graph FileFault) → r ≡ Ok g → r ≡ Ok h → g ≡ h
same_graph g h r e f = cc

pub one_fault : (doc : Doc) (a b : FileFault) → HasFault doc a → HasFault doc b → a ≡ b
one_fault doc a b (inl e) (inl f) = same_fault a b (graph_of_doc doc) e f
one_fault doc a b (inl e) (inr h) = absurd (no_fault a h.1.0 (graph_of_doc doc) e h.1.1)
one_fault doc a b (inr h) (inl f) = absurd (no_fault b h.1.0 (graph_of_doc doc) f h.1.1)
one_fault doc a b (inr h) (inr k) = h.0 ∙ sym k.0

pub none_fault : (doc : Doc) (a : FileFault) → HasFault doc a → HasNoFault doc → ⊥
none_fault doc a (inl e) n = no_fault a n.0 (graph_of_doc doc) e n.1
none_fault doc a (inr h) n = n.2 (subst (IsHeavier max_weight) (same_graph h.1.0 n.0 (graph_of_doc doc) h.1.1 n.1) h.1.2)

-- documents that are indexed twice count the steps of once
no_pairs : (ks : List Kept) → docs_of ks ≡ [] → ks ≡ []
no_pairs [] e = refl
no_pairs (k ∷ ks) e = cc

pub counted_once : (docs : List Doc) (old mid new : List Kept) (before now after : ℕ) → AddsMissing docs old mid → AddsMissing docs mid new
    → CountsAllWalks (drop (length old) mid) before now → CountsAllWalks (drop (length mid) new) now after → CountsAllWalks (drop (length old) new) before after
counted_once docs old mid new before now after first second counted again =
    let held : docs_of mid ≡ docs_of old ++ missing (docs_of old) docs = ap docs_of first.1 ∙ docs_both old first.0 ∙ ap (λ ds. docs_of old ++ ds) first.2 in
    let none : second.0 ≡ [] = no_pairs second.0 (second.2 ∙ ap (λ h. missing h docs) held ∙ added_held (docs_of old) docs) in
    let same : new ≡ mid = second.1 ∙ ap (λ ks. mid ++ ks) none ∙ append-nil mid in
    let still : after ≡ now = subst (λ ks. CountsAllWalks ks now after) (ap (drop (length mid)) (second.1 ∙ ap (λ ks. mid ++ ks) none) ∙ drop-append_seam mid []) again in
    subst (λ ks. CountsAllWalks (drop (length old) ks) before after) (sym same) (subst (λ n. CountsAllWalks (drop (length old) mid) before n) (sym still) counted)
