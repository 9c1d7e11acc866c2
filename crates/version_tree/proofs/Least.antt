-- The least of paths, and that it is the same in any order of them.
use Rattle.std.proofs.Common.{◌≡◌, ℕ, List, [], ◌∷◌, Bool, true, false, cond, ◌&&◌, ◌||◌, Option, Some, None, refl, ap, sym, ◌∙◌, subst, inl, inr}
use Rattle.std.specs.List.{filter, list_any}
use Rattle.std.specs.List.Sorted.{IsPermutation}
use Rattle.std.specs.Ordering.{is_lt, is_eq}
use Rattle.std.specs.declared.cmp.Ordering.{Ordering}
use Rattle.std.specs.declared.cmp.Ordering.TheVariants.{Less, Equal, Greater}
use Rattle.std.proofs.lemmas.Bool.{or_cases, or_left, or_right}
use Rattle.std.proofs.lemmas.List.Sorted.{list_any-IsPermutation}
use Rattle.version_tree.specs.Contents.{path_cmp}
use Rattle.version_tree.specs.Verdict.{lesser, least}
use Rattle.list_facts.proofs.Orders.{is_tie, is_less}
use Rattle.list_facts.proofs.Tests.{none-kept}
use Rattle.version_tree.proofs.Order.{path_total, tied, less_flipped, greater_flipped, same_path}

pub or-false : (a b : Bool) → a || b ≡ false → (a ≡ false) × (b ≡ false)
or-false true b e = (cc, cc)
or-false false b e = (refl, e)

pub or-falses : (a b : Bool) → a ≡ false → b ≡ false → a || b ≡ false
or-falses true b e f = cc
or-falses false b e f = f

abbrev pub has : List ℕ → List (List ℕ) → Bool
has m zs = list_any (λ (z : List ℕ). is_eq (path_cmp z m)) zs

abbrev pub low : List ℕ → List (List ℕ) → Bool
low m zs = list_any (λ (z : List ℕ). is_lt (path_cmp z m)) zs

-- a test that a member passes, some one passes
pub any-at : (u : List ℕ → Bool) (m : List ℕ) (zs : List (List ℕ)) → has m zs ≡ true → u m ≡ true → list_any u zs ≡ true
any-at u m [] h e = cc
any-at u m (z ∷ zs) h e = elim (or_cases (is_eq (path_cmp z m)) (has m zs) h) as (λ _. list_any u (z ∷ zs) ≡ true) [
  | inl here ↦ or_left _ _ (ap u (same_path z m (is_tie (path_cmp z m) here)) ∙ e)
  | inr there ↦ or_right _ _ (any-at u m zs there e)
]

not-true : (a b : Bool) → (a ≡ true → b ≡ true) → b ≡ false → a ≡ false
not-true true b h e = let t = h refl in cc
not-true false b h e = refl

pub any-weaker : (u v : List ℕ → Bool) → ((y : List ℕ) → u y ≡ true → v y ≡ true) → (zs : List (List ℕ)) → list_any v zs ≡ false → list_any u zs ≡ false
any-weaker u v h [] e = refl
any-weaker u v h (z ∷ zs) e = let parts = or-false (v z) (list_any v zs) e in or-falses _ _ (not-true (u z) (v z) (h z) parts.0) (any-weaker u v h zs parts.1)

-- one lower than z is lower than o, which isn't lower than z
below : (o z y : List ℕ) → is_lt (path_cmp o z) ≡ false → is_lt (path_cmp y z) ≡ true → is_lt (path_cmp y o) ≡ true
below o z y e l = by (path_cmp z o) refl
  where
    by : (c : Ordering) → path_cmp z o ≡ c → is_lt (path_cmp y o) ≡ true
    by Less is = ap is_lt (path_total.trans y z o (is_less (path_cmp y z) l) is)
    by Equal is = subst (λ (p : List ℕ). is_lt (path_cmp y p) ≡ true) (same_path z o is) l
    by Greater is = let f : is_lt (path_cmp o z) ≡ true = ap is_lt (greater_flipped z o is) in cc

pub empty-least : (zs : List (List ℕ)) → least zs ≡ None → zs ≡ []
empty-least [] e = refl
empty-least (z ∷ zs) e = cc

unlow : (m z : List ℕ) → path_cmp m z ≡ Less → is_lt (path_cmp z m) ≡ false
unlow m z e = ap is_lt (less_flipped m z e)

self-has : (m : List ℕ) (zs : List (List ℕ)) → has m (m ∷ zs) ≡ true
self-has m zs = or_left _ _ (ap is_eq (tied m))

self-low : (m : List ℕ) (zs : List (List ℕ)) → low m zs ≡ false → low m (m ∷ zs) ≡ false
self-low m zs e = or-falses _ _ (ap is_lt (tied m)) e

abbrev Facts : List ℕ → List (List ℕ) → Type 0
Facts m zs = (has m zs ≡ true) × (low m zs ≡ false)

step : (z o : List ℕ) (zs : List (List ℕ)) → Facts o zs → (b : Bool) → is_lt (path_cmp o z) ≡ b → Facts (cond b o z) (z ∷ zs)
step z o zs f true e = (or_right _ _ f.0, or-falses _ _ (unlow o z (is_less (path_cmp o z) e)) f.1)
step z o zs f false e = (self-has z zs, self-low z zs (any-weaker (λ (y : List ℕ). is_lt (path_cmp y z)) (λ (y : List ℕ). is_lt (path_cmp y o)) (λ y l. below o z y e l) zs f.1))

-- the facts of the least, where there is one
abbrev IfFacts : Option (List ℕ) → List (List ℕ) → Type 0
IfFacts None zs = Unit {0}
IfFacts (Some m) zs = Facts m zs

one : (z : List ℕ) (zs : List (List ℕ)) (o : Option (List ℕ)) → least zs ≡ o → IfFacts o zs → IfFacts (Some (lesser z o)) (z ∷ zs)
one z zs None e f = (self-has z zs, self-low z zs (ap (low z) (empty-least zs e)))
one z zs (Some o) e f = step z o zs f (is_lt (path_cmp o z)) refl

least-facts : (zs : List (List ℕ)) → IfFacts (least zs) zs
least-facts [] = tt
least-facts (z ∷ zs) = one z zs (least zs) refl (least-facts zs)

pub some-least : (zs : List (List ℕ)) (m : List ℕ) → least zs ≡ Some m → Facts m zs
some-least zs m e = subst (λ (o : Option (List ℕ)). IfFacts o zs) e (least-facts zs)

neither : (m o : List ℕ) → is_lt (path_cmp m o) ≡ false → is_lt (path_cmp o m) ≡ false → m ≡ o
neither m o a b = by (path_cmp m o) refl
  where
    by : (c : Ordering) → path_cmp m o ≡ c → m ≡ o
    by Less is = let t : is_lt (path_cmp m o) ≡ true = ap is_lt is in cc
    by Equal is = same_path m o is
    by Greater is = let t : is_lt (path_cmp o m) ≡ true = ap is_lt (greater_flipped m o is) in cc

pub no-any : (u : List ℕ → Bool) (m : List ℕ) (zs : List (List ℕ)) → has m zs ≡ true → list_any u zs ≡ false → u m ≡ false
no-any u m zs h e = not-true (u m) (list_any u zs) (λ t. any-at u m zs h t) e

pub least-some : (zs : List (List ℕ)) (m : List ℕ) → has m zs ≡ true → low m zs ≡ false → least zs ≡ Some m
least-some zs m h l = by (least zs) refl
  where
    by : (o : Option (List ℕ)) → least zs ≡ o → o ≡ Some m
    by None e = let f : has m zs ≡ false = ap (has m) (empty-least zs e) in cc
    by (Some o) e = let f = some-least zs o e in ap Some (sym (neither m o (no-any (λ (y : List ℕ). is_lt (path_cmp y o)) m zs h f.1) (no-any (λ (y : List ℕ). is_lt (path_cmp y m)) o zs f.0 l)))

-- a test of what passed a test
one-filter : (u : List ℕ → Bool) (x : List ℕ) (rest : List (List ℕ)) (b r : Bool) → list_any u rest ≡ r → list_any u (cond b (x ∷ rest) rest) ≡ (b && u x) || r
one-filter u x rest true r e = ap (λ v. u x || v) e
one-filter u x rest false r e = e

pub any-filter : (t u : List ℕ → Bool) (xs : List (List ℕ)) → list_any u (filter t xs) ≡ list_any (λ (x : List ℕ). t x && u x) xs
any-filter t u [] = refl
any-filter t u (x ∷ xs) = one-filter u x (filter t xs) (t x) _ (any-filter t u xs)

one-empty : (x : List ℕ) (rest : List (List ℕ)) (b : Bool) → cond b (x ∷ rest) rest ≡ [] → (b ≡ false) × (rest ≡ [])
one-empty x rest true e = (cc, cc)
one-empty x rest false e = (refl, e)

empty-none : (t : List ℕ → Bool) (xs : List (List ℕ)) → filter t xs ≡ [] → list_any t xs ≡ false
empty-none t [] e = refl
empty-none t (x ∷ xs) e = let parts = one-empty x (filter t xs) (t x) e in or-falses _ _ parts.0 (empty-none t xs parts.1)

pub least-permutation : (t : List ℕ → Bool) (xs ys : List (List ℕ)) → IsPermutation xs ys → least (filter t xs) ≡ least (filter t ys)
least-permutation t xs ys moved = by (least (filter t ys)) refl
  where
    alike : (u : List ℕ → Bool) → list_any u (filter t xs) ≡ list_any u (filter t ys)
    alike u = any-filter t u xs ∙ list_any-IsPermutation (λ (x : List ℕ). t x && u x) xs ys moved ∙ sym (any-filter t u ys)

    by : (o : Option (List ℕ)) → least (filter t ys) ≡ o → least (filter t xs) ≡ o
    by None e = ap least (none-kept t xs (list_any-IsPermutation t xs ys moved ∙ empty-none t ys (empty-least (filter t ys) e)))
    by (Some m) e = let f = some-least (filter t ys) m e in
        least-some (filter t xs) m (alike (λ (z : List ℕ). is_eq (path_cmp z m)) ∙ f.0) (alike (λ (z : List ℕ). is_lt (path_cmp z m)) ∙ f.1)
