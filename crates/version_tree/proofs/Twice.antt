-- In sorted paths, the first that is the one before it once more is the least that stands twice.
use Rattle.std.proofs.Common.{◌≡◌, ℕ, suc, ◌<◌, ◌≤◌, map, get_or, List, [], ◌∷◌, length, Bool, true, false, cond, Option, Some, None, refl, ap, sym, ◌∙◌, subst, arith}
use Rattle.std.specs.Prelude.{nat_lt}
use Rattle.std.specs.List.{AllByRecursion, filter}
use Rattle.std.specs.List.Sorted.{IsPermutation, IsSortedBy}
use Rattle.std.specs.Ordering.{is_lt, is_eq}
use Rattle.std.specs.declared.cmp.Ordering.{Ordering}
use Rattle.std.specs.declared.cmp.Ordering.TheVariants.{Less, Equal, Greater}
use Rattle.std.proofs.lemmas.Bool.Decides.{nat_tests}
use Rattle.std.proofs.lemmas.Bool.{cond-true, cond-false}
use Rattle.std.proofs.lemmas.List.Sums.{length-filter}
use Rattle.std.proofs.lemmas.List.Sorted.{sum_by-IsPermutation, sorted_far, ranks_by, IsPermutation-map}
use Rattle.version_tree.specs.Contents.{path_cmp}
use Rattle.version_tree.specs.Verdict.{lesser, least, stands_twice}
use Rattle.version_tree.specs.Repeats.{repeat_from}
use Rattle.version_tree.proofs.Order.{path_total, tied, less_flipped, greater_flipped, same_path}
use Rattle.list_facts.proofs.Each.{each, all_hold, all-filter}
use Rattle.list_facts.proofs.Tests.{dropped, none}
use Rattle.version_tree.proofs.Least.{least-permutation, some-least, no-any}

abbrev pub IsAscending : List (List ℕ) → Type 0
IsAscending [] = Unit {0}
IsAscending (p ∷ ps) = AllByRecursion (λ (q : List ℕ). is_lt (path_cmp q p) ≡ false) ps × IsAscending ps

abbrev eqs : List ℕ → List ℕ → Bool
eqs p other = is_eq (path_cmp other p)

filter-same : (s t : List ℕ → Bool) (xs : List (List ℕ)) → AllByRecursion (λ (x : List ℕ). s x ≡ t x) xs → filter s xs ≡ filter t xs
filter-same s t [] h = refl
filter-same s t (x ∷ xs) h = λ i. cond (h.0 i) (x ∷ filter-same s t xs h.1 i) (filter-same s t xs h.1 i)

-- the same paths stand twice in any order
count-same : (p : List ℕ) (xs ys : List (List ℕ)) → IsPermutation xs ys → length (filter (eqs p) xs) ≡ length (filter (eqs p) ys)
count-same p xs ys moved = length-filter (eqs p) xs ∙ sym (sum_by-IsPermutation (λ (x : List ℕ). cond (eqs p x) 1 0) xs ys moved) ∙ sym (length-filter (eqs p) ys)

pub twice-permutation : (xs ys : List (List ℕ)) → IsPermutation xs ys → least (filter (stands_twice xs) xs) ≡ least (filter (stands_twice ys) ys)
twice-permutation xs ys moved =
    ap least (filter-same (stands_twice xs) (stands_twice ys) xs (all_hold (λ (p : List ℕ). stands_twice xs p ≡ stands_twice ys p) (λ p. ap (λ n. nat_lt 1 n) (count-same p xs ys moved)) xs))
    ∙ least-permutation (stands_twice ys) xs ys moved

-- a path lower than all of these stands among them no time, and lower than each it changes no count
apart : (q p : List ℕ) → path_cmp q p ≡ Less → eqs q p ≡ false
apart q p e = ap is_eq (less_flipped q p e)

no-count : (q : List ℕ) (xs : List (List ℕ)) → AllByRecursion (λ (x : List ℕ). path_cmp q x ≡ Less) xs → filter (eqs q) xs ≡ []
no-count q xs h = dropped (eqs q) xs (each (λ (x : List ℕ). path_cmp q x ≡ Less) (λ (x : List ℕ). eqs q x ≡ false) (λ x e. apart q x e) xs h)

single : (q : List ℕ) (xs : List (List ℕ)) → AllByRecursion (λ (x : List ℕ). path_cmp q x ≡ Less) xs → stands_twice (q ∷ xs) q ≡ false
single q xs h = ap (λ (ys : List (List ℕ)). nat_lt 1 (length ys)) (cond-true (eqs q q) _ _ (ap is_eq (tied q)) ∙ ap (λ r. q ∷ r) (no-count q xs h))

unchanged : (q p : List ℕ) (xs : List (List ℕ)) → path_cmp q p ≡ Less → stands_twice (q ∷ xs) p ≡ stands_twice xs p
unchanged q p xs e = ap (λ (ys : List (List ℕ)). nat_lt 1 (length ys)) (cond-false (eqs p q) _ _ (ap is_eq e))

pub drop-lowest : (q : List ℕ) (xs : List (List ℕ)) → AllByRecursion (λ (x : List ℕ). path_cmp q x ≡ Less) xs → filter (stands_twice (q ∷ xs)) (q ∷ xs) ≡ filter (stands_twice xs) xs
drop-lowest q xs h = cond-false (stands_twice (q ∷ xs) q) _ _ (single q xs h)
    ∙ filter-same (stands_twice (q ∷ xs)) (stands_twice xs) xs (each (λ (x : List ℕ). path_cmp q x ≡ Less) (λ (x : List ℕ). stands_twice (q ∷ xs) x ≡ stands_twice xs x) (λ x e. unchanged q x xs e) xs h)

-- the least of ascending paths is the first
not-lower : (q : List ℕ) (zs : List (List ℕ)) → AllByRecursion (λ (z : List ℕ). is_lt (path_cmp z q) ≡ false) zs → (o : Option (List ℕ)) → least zs ≡ o → lesser q o ≡ q
not-lower q zs h None e = refl
not-lower q zs h (Some o) e = cond-false (is_lt (path_cmp o q)) o q (no-any (λ (y : List ℕ). is_lt (path_cmp y q)) o zs (some-least zs o e).0 (none (λ (y : List ℕ). is_lt (path_cmp y q)) zs h))

above : (q p x : List ℕ) → path_cmp q p ≡ Less → is_lt (path_cmp x p) ≡ false → path_cmp q x ≡ Less
above q p x e l = by (path_cmp p x) refl
  where
    by : (c : Ordering) → path_cmp p x ≡ c → path_cmp q x ≡ Less
    by Less is = path_total.trans q p x e is
    by Equal is = subst (λ (r : List ℕ). path_cmp q r ≡ Less) (same_path p x is) e
    by Greater is = let t : is_lt (path_cmp x p) ≡ true = ap is_lt (greater_flipped p x is) in cc

two : (q p : List ℕ) (rest : List (List ℕ)) → nat_lt 1 (length (q ∷ p ∷ rest)) ≡ true
two q p rest = grind (arith, nat_tests)

doubled : (q p : List ℕ) (ps : List (List ℕ)) → path_cmp q p ≡ Equal → stands_twice (q ∷ p ∷ ps) q ≡ true
doubled q p ps e = ap (λ (ys : List (List ℕ)). nat_lt 1 (length ys))
    (cond-true (eqs q q) _ _ (ap is_eq (tied q)) ∙ ap (λ r. q ∷ r) (cond-true (eqs q p) _ _ (ap is_eq (ap (λ r. path_cmp r q) (sym (same_path q p e)) ∙ tied q)))) ∙ two q p (filter (eqs q) ps)

next : (q p : List ℕ) (ps : List (List ℕ)) → IsAscending (q ∷ p ∷ ps) → repeat_from (Some p) ps ≡ least (filter (stands_twice (p ∷ ps)) (p ∷ ps)) → (c : Ordering) → path_cmp q p ≡ c → repeat_from (Some q) (p ∷ ps) ≡ least (filter (stands_twice (q ∷ p ∷ ps)) (q ∷ p ∷ ps))
next q p ps up rest Less e =
    cond-false (is_eq (path_cmp q p)) _ _ (ap is_eq e) ∙ rest
    ∙ sym (ap least (drop-lowest q (p ∷ ps) (e, each (λ (x : List ℕ). is_lt (path_cmp x p) ≡ false) (λ (x : List ℕ). path_cmp q x ≡ Less) (λ x l. above q p x e l) ps up.1.0)))
next q p ps up rest Equal e =
    cond-true (is_eq (path_cmp q p)) _ _ (ap is_eq e) ∙ ap Some (sym (same_path q p e))
    ∙ ap Some (sym (not-lower q (filter (stands_twice (q ∷ p ∷ ps)) (p ∷ ps)) (all-filter (λ (z : List ℕ). is_lt (path_cmp z q) ≡ false) (stands_twice (q ∷ p ∷ ps)) (p ∷ ps) up.0) _ refl))
    ∙ sym (ap least (cond-true (stands_twice (q ∷ p ∷ ps) q) _ _ (doubled q p ps e)))
next q p ps up rest Greater e = let t : is_lt (path_cmp p q) ≡ true = ap is_lt (greater_flipped q p e) in let f = up.0.0 in cc

found-from : (q : List ℕ) (ps : List (List ℕ)) → IsAscending (q ∷ ps) → repeat_from (Some q) ps ≡ least (filter (stands_twice (q ∷ ps)) (q ∷ ps))
found-from q [] up = sym (ap least (drop-lowest q [] tt))
found-from q (p ∷ ps) up = next q p ps up (found-from p ps up.1) (path_cmp q p) refl

pub found : (ps : List (List ℕ)) → IsAscending ps → repeat_from None ps ≡ least (filter (stands_twice ps) ps)
found [] up = refl
found (q ∷ ps) up = found-from q ps up

pub repeats : (xs ys : List (List ℕ)) → IsPermutation xs ys → IsAscending ys → repeat_from None ys ≡ least (filter (stands_twice xs) xs)
repeats xs ys moved up = found ys up ∙ sym (twice-permutation xs ys moved)

-- sorted by a key, as the sort says it
module _ {X : Type 0} (key : X → List ℕ) where
  abbrev IsFar : List X → Type 0
  IsFar xs = (i j : ℕ) (d : X) → i ≤ j → j < length xs → is_lt (path_cmp (key (get_or xs j d)) (key (get_or xs i d))) ≡ false

  each-after : (P : List ℕ → Type 0) (xs : List X) → ((k : ℕ) (d : X) → k < length xs → P (key (get_or xs k d))) → AllByRecursion P (map key xs)
  each-after P [] h = tt
  each-after P (x ∷ xs) h = (h 0 x (omega arith), each-after P xs (λ k d lt. h (suc k) d (omega arith)))

  far-ascends : (xs : List X) → IsFar xs → IsAscending (map key xs)
  far-ascends [] up = tt
  far-ascends (x ∷ xs) up = (each-after (λ (q : List ℕ). is_lt (path_cmp q (key x)) ≡ false) xs (λ k d lt. up 0 (suc k) d (omega arith) (omega arith)), far-ascends xs (λ i j d le lt. up (suc i) (suc j) d (omega arith) (omega arith)))

  pub sorted-ascends : (xs : List X) → IsSortedBy (λ x y. is_lt (path_cmp (key x) (key y))) xs → IsAscending (map key xs)
  sorted-ascends xs up = far-ascends xs (sorted_far (λ x y. is_lt (path_cmp (key x) (key y))) (ranks_by path_total key) xs up)

  pub told : (items ys : List X) (xs : List (List ℕ)) → map key items ≡ xs → IsPermutation items ys → IsSortedBy (λ x y. is_lt (path_cmp (key x) (key y))) ys → repeat_from None (map key ys) ≡ least (filter (stands_twice xs) xs)
  told items ys xs e moved up = subst (λ (zs : List (List ℕ)). repeat_from None (map key ys) ≡ least (filter (stands_twice zs) zs)) e (repeats (map key items) (map key ys) (IsPermutation-map key items ys moved) (sorted-ascends ys up))
