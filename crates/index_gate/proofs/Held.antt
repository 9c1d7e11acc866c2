-- Which documents a store holds, and what it tells of them.
use Rattle.std.specs.Prelude.{Bool, true, false, cond, ◌||◌, List, [], ◌∷◌, ◌++◌, Option, None, Some}
use Rattle.std.specs.Option.{is_some}
use Rattle.std.specs.List.{AllByRecursion}
use Rattle.std.proofs.Common.{◌≡◌, refl, sym, ap, subst, ◌∙◌}
use Rattle.std.proofs.lemmas.List.{map-append}
use Rattle.std.proofs.lemmas.List.Folds.{list_any-append}
use Rattle.partial_path.specs.PathSets.{FileRules}
use Rattle.path_store.specs.Documents.{Doc, same_doc}
use Rattle.path_store.specs.Store.{Kept, kept_of, find_doc, StandsIn}
use Rattle.path_store.proofs.Members.{found, same_itself}
use Rattle.index_gate.specs.Indexed.{IsIndexed, AreIndexed, docs_of, has_doc}

-- a document is held exactly where it is found
found_or : (b : Bool) (paths : FileRules) (rest : Option FileRules) → is_some (cond b (Some paths) rest) ≡ (b || is_some rest)
found_or true paths rest = refl
found_or false paths rest = refl

pub held_found : (doc : Doc) (ks : List Kept) → is_some (find_doc doc ks) ≡ has_doc (docs_of ks) doc
held_found doc [] = refl
held_found doc (k ∷ ks) = found_or (same_doc k.doc doc) k.paths (find_doc doc ks) ∙ ap (λ b. same_doc k.doc doc || b) (held_found doc ks)

pub held_none : (doc : Doc) (ks : List Kept) → find_doc doc ks ≡ None → has_doc (docs_of ks) doc ≡ false
held_none doc ks e = sym (held_found doc ks) ∙ ap is_some e

pub held_some : (doc : Doc) (ks : List Kept) (paths : FileRules) → find_doc doc ks ≡ Some paths → has_doc (docs_of ks) doc ≡ true
held_some doc ks paths e = sym (held_found doc ks) ∙ ap is_some e

or_left : (a b : Bool) → a ≡ true → (a || b) ≡ true
or_left true b e = refl
or_left false b e = cc

or_right : (a b : Bool) → b ≡ true → (a || b) ≡ true
or_right true b e = refl
or_right false b e = e

or_none : (a b : Bool) → a ≡ false → b ≡ false → (a || b) ≡ false
or_none true b e f = e
or_none false b e f = f

-- one of these documents, or of those
pub has_left : (xs ys : List Doc) (doc : Doc) → has_doc xs doc ≡ true → has_doc (xs ++ ys) doc ≡ true
has_left xs ys doc e = list_any-append (λ (other : Doc). same_doc other doc) xs ys ∙ or_left (has_doc xs doc) (has_doc ys doc) e

pub has_right : (xs ys : List Doc) (doc : Doc) → has_doc ys doc ≡ true → has_doc (xs ++ ys) doc ≡ true
has_right xs ys doc e = list_any-append (λ (other : Doc). same_doc other doc) xs ys ∙ or_right (has_doc xs doc) (has_doc ys doc) e

pub has_neither : (xs ys : List Doc) (doc : Doc) → has_doc xs doc ≡ false → has_doc ys doc ≡ false → has_doc (xs ++ ys) doc ≡ false
has_neither xs ys doc e f = list_any-append (λ (other : Doc). same_doc other doc) xs ys ∙ or_none (has_doc xs doc) (has_doc ys doc) e f

pub has_itself : (doc : Doc) (more : List Doc) → has_doc (doc ∷ more) doc ≡ true
has_itself doc more = or_left (same_doc doc doc) (has_doc more doc) (same_itself doc)

-- what all pairs are, the one in the middle is
middle : (P : Kept → Type 0) (before : List Kept) (k : Kept) (after : List Kept) → AllByRecursion P (before ++ k ∷ after) → P k
middle P [] k after all = all.0
middle P (x ∷ before) k after all = middle P before k after all.1

stands : (doc : Doc) (paths : FileRules) (ks : List Kept) → StandsIn doc paths ks → AreIndexed ks → IsIndexed (kept_of doc paths)
stands doc paths ks at all = middle IsIndexed at.0 (kept_of doc paths) at.1 (subst AreIndexed at.2 all)

-- the paths that are found are those of an indexed document
pub found_indexed : (doc : Doc) (paths : FileRules) (ks : List Kept) → find_doc doc ks ≡ Some paths → AreIndexed ks → IsIndexed (kept_of doc paths)
found_indexed doc paths ks e all = stands doc paths ks (found doc paths ks e) all

-- one pair more
pub indexed_more : (ks : List Kept) (k : Kept) → AreIndexed ks → IsIndexed k → AreIndexed (ks ++ k ∷ [])
indexed_more [] k all one = (one, tt)
indexed_more (x ∷ ks) k all one = (all.0, indexed_more ks k all.1 one)

pub indexed_both : (ks more : List Kept) → AreIndexed ks → AreIndexed more → AreIndexed (ks ++ more)
indexed_both [] more all rest = rest
indexed_both (x ∷ ks) more all rest = (all.0, indexed_both ks more all.1 rest)

pub indexed_some : (ks more : List Kept) → AreIndexed (ks ++ more) → AreIndexed ks
indexed_some [] more all = tt
indexed_some (x ∷ ks) more all = (all.0, indexed_some ks more all.1)

pub docs_more : (ks : List Kept) (k : Kept) → docs_of (ks ++ k ∷ []) ≡ docs_of ks ++ k.doc ∷ []
docs_more ks k = map-append (λ (k : Kept). k.doc) ks (k ∷ [])

pub docs_both : (ks more : List Kept) → docs_of (ks ++ more) ≡ docs_of ks ++ docs_of more
docs_both ks more = map-append (λ (k : Kept). k.doc) ks more
