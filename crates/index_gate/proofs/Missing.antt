-- The documents that aren't held yet, each once.
use Rattle.std.specs.Prelude.{Bool, true, false, cond, List, [], ◌∷◌, ◌++◌}
use Rattle.std.specs.Bool.{⊤}
use Rattle.std.specs.Option.{is_some}
use Rattle.std.proofs.Common.{◌≡◌, refl, sym, ap, subst, ◌∙◌}
use Rattle.std.proofs.lemmas.List.{append_assoc, append-nil}
use Rattle.path_store.specs.Documents.{Doc}
use Rattle.path_store.specs.Store.{Kept, find_doc, with_doc, with_docs}
use Rattle.index_gate.specs.Indexed.{docs_of, has_doc, missing}
use Rattle.index_gate.proofs.Held.{held_found, docs_more}

-- one document more
pub missing_if : (b : Bool) (held docs : List Doc) (doc : Doc) → has_doc held doc ≡ b → missing held (doc ∷ docs) ≡ cond b (missing held docs) (doc ∷ missing (held ++ doc ∷ []) docs)
missing_if b held docs doc e = rw e refl

-- documents that aren't held, no one twice
abbrev pub AreNew : List Doc → List Doc → Type 0
AreNew held [] = ⊤
AreNew held (doc ∷ docs) = (has_doc held doc ≡ false) × AreNew (held ++ doc ∷ []) docs

new_if : (b : Bool) (held docs rest : List Doc) (doc : Doc) → has_doc held doc ≡ b → AreNew held rest → AreNew (held ++ doc ∷ []) docs → AreNew held (cond b rest (doc ∷ docs))
new_if true held docs rest doc e all more = all
new_if false held docs rest doc e all more = (e, more)

pub missing_new : (held docs : List Doc) → AreNew held (missing held docs)
missing_new held [] = tt
missing_new held (doc ∷ docs) = new_if (has_doc held doc) held (missing (held ++ doc ∷ []) docs) (missing held docs) doc refl (missing_new held docs) (missing_new (held ++ doc ∷ []) docs)

pub new_first : (held docs more : List Doc) → AreNew held (docs ++ more) → AreNew held docs
new_first held [] more all = tt
new_first held (doc ∷ docs) more all = (all.0, new_first (held ++ doc ∷ []) docs more all.1)

-- new documents are put last
with_new : (b : Bool) (k : Kept) (ks : List Kept) → is_some (find_doc k.doc ks) ≡ b → b ≡ false → with_doc k.doc k.paths ks ≡ ks ++ k ∷ []
with_new b k ks e f = rw (e ∙ f) refl

pub with_all_new : (more ks : List Kept) → AreNew (docs_of ks) (docs_of more) → with_docs more ks ≡ ks ++ more
with_all_new [] ks all = sym (append-nil ks)
with_all_new (k ∷ more) ks all =
    let one : with_doc k.doc k.paths ks ≡ ks ++ k ∷ [] = with_new (has_doc (docs_of ks) k.doc) k ks (held_found k.doc ks) all.0 in
    ap (with_docs more) one
    ∙ with_all_new more (ks ++ k ∷ []) (subst (λ held. AreNew held (docs_of more)) (sym (docs_more ks k)) all.1)
    ∙ append_assoc ks (k ∷ []) more
