-- Pairs of which no two have the same document, and one more.
use Rattle.std.specs.Prelude.{◌≡◌, cond, true, false, Bool, refl, List, [], ◌∷◌, ◌++◌, ◌&&◌, Option, None, Some}
use Rattle.std.specs.Str.{bytes_eq}
use Rattle.std.proofs.Common.{ap, ◌∙◌}
use Rattle.list_facts.proofs.Orders.{bytes_eq-sym}
use Rattle.path_store.specs.Documents.{Doc, same_doc}
use Rattle.path_store.specs.Store.{Kept, find_doc, AreDistinct}

pub same_doc_flips : (a b : Doc) → same_doc a b ≡ same_doc b a
same_doc_flips a b = ap (λ p. p && bytes_eq a.bytes b.bytes) (bytes_eq-sym a.path b.path) ∙ ap (λ q. bytes_eq b.path a.path && q) (bytes_eq-sym a.bytes b.bytes)

-- nothing is found: not the first, and none after it
pub not_first : {X : Type 0} (s : Bool) (x : X) (o : Option X) → cond s (Some x) o ≡ None → (s ≡ false) × (o ≡ None)
not_first true x o h = search h
not_first false x o h = (refl, h)

pub still_none : {X : Type 0} (s : Bool) (x : X) (o : Option X) → s ≡ false → o ≡ None → cond s (Some x) o ≡ None
still_none true x o h e = search h
still_none false x o h e = e

find_none_push : (doc : Doc) (ks : List Kept) (k : Kept) → find_doc doc ks ≡ None → same_doc k.doc doc ≡ false → find_doc doc (ks ++ k ∷ []) ≡ None
find_none_push doc [] k h e = still_none (same_doc k.doc doc) k.paths None e refl
find_none_push doc (x ∷ ks) k h e =
    let parts = not_first (same_doc x.doc doc) x.paths (find_doc doc ks) h in
    still_none (same_doc x.doc doc) x.paths (find_doc doc (ks ++ k ∷ [])) parts.0 (find_none_push doc ks k parts.1 e)

-- one pair more, of a document that none has
pub distinct_push : (ks : List Kept) (k : Kept) → AreDistinct ks → find_doc k.doc ks ≡ None → AreDistinct (ks ++ k ∷ [])
distinct_push [] k d h = (refl, tt)
distinct_push (x ∷ ks) k d h =
    let parts = not_first (same_doc x.doc k.doc) x.paths (find_doc k.doc ks) h in
    (find_none_push x.doc ks k d.0 (same_doc_flips k.doc x.doc ∙ parts.0), distinct_push ks k d.1 parts.1)
