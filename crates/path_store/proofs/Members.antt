-- What is found is kept, and what is kept is found.
use Rattle.std.specs.Prelude.{◌≡◌, ◌≢◌, ◌≤◌, ℕ, nat_le, cond, true, false, Bool, refl, List, [], ◌∷◌, ◌++◌, Option, None, Some}
use Rattle.std.specs.List.{AllByRecursion}
use Rattle.std.specs.Str.{bytes_eq}
use Rattle.std.proofs.Common.{ap, sym, ◌∙◌, subst, true≢false, arith}
use Rattle.std.proofs.lemmas.Bool.Decides.{nat_tests}
use Rattle.std.proofs.lemmas.Bool.{and_from}
use Rattle.std.proofs.lemmas.Option.{none-some, same_Some}
use Rattle.std.proofs.lemmas.Slice.Eq.{bytes_eq-Decides}
use Rattle.partial_path.specs.PathSets.{FileRules}
use Rattle.path_store.specs.Documents.{Doc, same_doc}
use Rattle.path_store.specs.Store.{StandsIn, IsEndOf, Kept, kept_of, find_doc, AreDistinct, cost_of, swept}
use Rattle.path_store.proofs.Apart.{not_first, still_none, same_doc_flips}
use Rattle.path_store.proofs.Same.{same_is}

pub same_itself : (a : Doc) → same_doc a a ≡ true
same_itself a = and_from (bytes_eq a.path a.path) (bytes_eq a.bytes a.bytes) ((bytes_eq-Decides a.path a.path).1 refl) ((bytes_eq-Decides a.bytes a.bytes).1 refl)

same_from : (a b : Doc) → a ≡ b → same_doc a b ≡ true
same_from a b e = subst (λ (c : Doc). same_doc a c ≡ true) e (same_itself a)

apart : (a b : Doc) → a ≢ b → (s : Bool) → (s ≡ true → a ≡ b) → s ≡ false
apart a b ne true h = absurd (ne (h refl))
apart a b ne false h = refl

-- nothing is found where each pair is of another document
pub absent : (doc : Doc) (ks : List Kept) → find_doc doc ks ≡ None → AllByRecursion (λ k. k.doc ≢ doc) ks
absent doc [] h = tt
absent doc (k ∷ ks) h =
    let parts = not_first (same_doc k.doc doc) k.paths (find_doc doc ks) h in
    ((λ e. true≢false (sym (same_from k.doc doc e) ∙ parts.0)), absent doc ks parts.1)

pub not_found : (doc : Doc) (ks : List Kept) → AllByRecursion (λ k. k.doc ≢ doc) ks → find_doc doc ks ≡ None
not_found doc [] h = refl
not_found doc (k ∷ ks) h = still_none (same_doc k.doc doc) k.paths (find_doc doc ks) (apart k.doc doc h.0 (same_doc k.doc doc) (same_is k.doc doc)) (not_found doc ks h.1)

pair_path : (k : Kept) (doc : Doc) (paths : FileRules) → k.doc ≡ doc → k.paths ≡ paths → k ≡ kept_of doc paths
pair_path k doc paths e f = λ i. record { doc = e i; paths = f i }

found_by : (doc : Doc) (paths : FileRules) (k : Kept) (ks : List Kept) (s : Bool) → (s ≡ true → k.doc ≡ doc) → cond s (Some k.paths) (find_doc doc ks) ≡ Some paths → (find_doc doc ks ≡ Some paths → StandsIn doc paths ks) → StandsIn doc paths (k ∷ ks)
found_by doc paths k ks true is h later = ([], ks, ap (λ (x : Kept). x ∷ ks) (pair_path k doc paths (is refl) (same_Some k.paths paths h)))
found_by doc paths k ks false is h later = let rest = later h in (k ∷ rest.0, rest.1, ap (λ xs. k ∷ xs) rest.2)

pub found : (doc : Doc) (paths : FileRules) (ks : List Kept) → find_doc doc ks ≡ Some paths → StandsIn doc paths ks
found doc paths [] h = absurd (none-some paths h)
found doc paths (k ∷ ks) h = found_by doc paths k ks (same_doc k.doc doc) (same_is k.doc doc) h (found doc paths ks)

-- none of the pairs is found, so neither is one among them
differs : (doc : Doc) (before : List Kept) (k : Kept) (after : List Kept) → find_doc doc (before ++ k ∷ after) ≡ None → same_doc k.doc doc ≡ false
differs doc [] k after h = (not_first (same_doc k.doc doc) k.paths (find_doc doc after) h).0
differs doc (b ∷ before) k after h = differs doc before k after (not_first (same_doc b.doc doc) b.paths (find_doc doc (before ++ k ∷ after)) h).1

here : (s : Bool) (paths : FileRules) (o : Option FileRules) → s ≡ true → cond s (Some paths) o ≡ Some paths
here true paths o h = refl
here false paths o h = search h

past : (s : Bool) (x paths : FileRules) (o : Option FileRules) → s ≡ false → o ≡ Some paths → cond s (Some x) o ≡ Some paths
past true x paths o h e = search h
past false x paths o h e = e

held : (doc : Doc) (paths : FileRules) (before after : List Kept) → AreDistinct (before ++ kept_of doc paths ∷ after) → find_doc doc (before ++ kept_of doc paths ∷ after) ≡ Some paths
held doc paths [] after d = here (same_doc doc doc) paths (find_doc doc after) (same_itself doc)
held doc paths (b ∷ before) after d =
    past (same_doc b.doc doc) b.paths paths (find_doc doc (before ++ kept_of doc paths ∷ after))
    (same_doc_flips b.doc doc ∙ differs b.doc before (kept_of doc paths) after d.0)
    (held doc paths before after d.1)

pub stands : (doc : Doc) (paths : FileRules) (ks : List Kept) → AreDistinct ks → StandsIn doc paths ks → find_doc doc ks ≡ Some paths
stands doc paths ks d h = subst (λ (xs : List Kept). find_doc doc xs ≡ Some paths) (sym h.2) (held doc paths h.0 h.1 (subst AreDistinct h.2 d))

-- what is left of a sweep costs no more than the limit
fits_by : (limit cost : ℕ) (ks rest : List Kept) (b : Bool) → nat_le (cost_of ks) limit ≡ b → cost_of rest ≤ limit → cost_of (cond b ks rest) ≤ limit
fits_by limit cost ks rest true e h = grind (arith, nat_tests)
fits_by limit cost ks rest false e h = h

pub fits : (limit : ℕ) (ks : List Kept) → cost_of (swept limit ks) ≤ limit
fits limit [] = search arith
fits limit (k ∷ ks) = fits_by limit 0 (k ∷ ks) (swept limit ks) (nat_le (cost_of (k ∷ ks)) limit) refl (fits limit ks)

-- what is left are the newest pairs
newest_by : (k : Kept) (ks rest : List Kept) (b : Bool) → IsEndOf rest ks → IsEndOf (cond b (k ∷ ks) rest) (k ∷ ks)
newest_by k ks rest true h = ([], refl)
newest_by k ks rest false h = (k ∷ h.0, ap (λ xs. k ∷ xs) h.1)

pub newest : (limit : ℕ) (ks : List Kept) → IsEndOf (swept limit ks) ks
newest limit [] = ([], refl)
newest limit (k ∷ ks) = newest_by k ks (swept limit ks) (nat_le (cost_of (k ∷ ks)) limit) (newest limit ks)
