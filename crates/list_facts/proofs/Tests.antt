-- What a test of the elements leaves of a list, where they all pass it or none does.
use Rattle.std.proofs.Common.{◌≡◌, ◌≤◌, length, arith, List, [], ◌∷◌, ◌++◌, Bool, true, false, cond, not, ◌||◌, refl, ap, ◌∙◌}
use Rattle.std.specs.List.{AllByRecursion, filter, list_any}
use Rattle.std.proofs.lemmas.Bool.{cond-true, cond-false}
use Rattle.std.proofs.lemmas.List.Filters.{length-filter_both}

module _ {X : Type 0} where
  -- where all pass, all are left, and where none does, none is
  pub kept : (t : X → Bool) (xs : List X) → AllByRecursion (λ x. t x ≡ true) xs → filter t xs ≡ xs
  kept t [] h = refl
  kept t (x ∷ xs) h = cond-true (t x) _ _ h.0 ∙ ap (λ r. x ∷ r) (kept t xs h.1)

  pub dropped : (t : X → Bool) (xs : List X) → AllByRecursion (λ x. t x ≡ false) xs → filter t xs ≡ []
  dropped t [] h = refl
  dropped t (x ∷ xs) h = cond-false (t x) _ _ h.0 ∙ dropped t xs h.1

  none-first : (t : X → Bool) (x : X) (xs : List X) (v : Bool) → (v || list_any t xs) ≡ false → (list_any t xs ≡ false → filter t xs ≡ []) → cond v (x ∷ filter t xs) (filter t xs) ≡ []
  none-first t x xs true h rest = cc
  none-first t x xs false h rest = rest h

  pub none-kept : (t : X → Bool) (xs : List X) → list_any t xs ≡ false → filter t xs ≡ []
  none-kept t [] h = refl
  none-kept t (x ∷ xs) h = none-first t x xs (t x) h (none-kept t xs)

  one-other : (t : X → Bool) (x : X) (xs : List X) (v : Bool) → (v || list_any t xs) ≡ false → (list_any t xs ≡ false → filter (λ y. not (t y)) xs ≡ xs) → cond (not v) (x ∷ filter (λ y. not (t y)) xs) (filter (λ y. not (t y)) xs) ≡ x ∷ xs
  one-other t x xs true h rest = cc
  one-other t x xs false h rest = ap (λ r. x ∷ r) (rest h)

  pub others-kept : (t : X → Bool) (xs : List X) → list_any t xs ≡ false → filter (λ x. not (t x)) xs ≡ xs
  others-kept t [] h = refl
  others-kept t (x ∷ xs) h = one-other t x xs (t x) h (others-kept t xs)

  -- where none passes, some element passes of none or of the others alone
  pub none : (t : X → Bool) (xs : List X) → AllByRecursion (λ x. t x ≡ false) xs → list_any t xs ≡ false
  none t [] h = refl
  none t (x ∷ xs) h = rw h.0 (none t xs h.1)

  pub any-skip : (t : X → Bool) (xs ys : List X) → AllByRecursion (λ x. t x ≡ false) xs → list_any t (xs ++ ys) ≡ list_any t ys
  any-skip t [] ys h = refl
  any-skip t (x ∷ xs) ys h = rw h.0 (any-skip t xs ys h.1)

  pub any-short : (t : X → Bool) (xs ys : List X) → AllByRecursion (λ x. t x ≡ false) ys → list_any t (xs ++ ys) ≡ list_any t xs
  any-short t [] ys h = none t ys h
  any-short t (x ∷ xs) ys h = ap (λ v. t x || v) (any-short t xs ys h)

  -- one that passes is enough
  pub any-at : (t : X → Bool) (x : X) (xs ys : List X) → t x ≡ true → list_any t (xs ++ x ∷ ys) ≡ true
  any-at t x [] ys e = rw e refl
  any-at t x (y ∷ xs) ys e = elim (t y) as (λ v. (v || list_any t (xs ++ x ∷ ys)) ≡ true) [ true ↦ refl | false ↦ any-at t x xs ys e ]

  -- no more are left than there were
  pub filter-short : (t : X → Bool) (xs : List X) → length (filter t xs) ≤ length xs
  filter-short t xs = let both = length-filter_both t (λ x. not (t x)) (λ x. refl) xs in omega (arith, both)
