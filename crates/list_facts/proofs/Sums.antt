-- Sums over the elements of lists in which none stands twice, and how many they are.
use Rattle.std.proofs.Common.{◌≡◌, ℕ, suc, ◌+◌, ◌≤◌, List, [], ◌∷◌, length, sym, refl, ap, ◌∙◌, subst, ◌⊎◌, inl, inr, arith}
use Rattle.std.specs.List.{sum_by}
use Rattle.std.proofs.lemmas.List.Sums.{sum_by-cons}
use Rattle.list_facts.specs.Members.{IsIn}
use Rattle.list_facts.specs.Apart.{IsApart}
use Rattle.list_facts.proofs.Apart.{absent}

-- a list with the element taken out, and what is left of a sum
abbrev Without : {X : Type 0} → (X → ℕ) → X → List X → Type 0
Without {X} f x ys = (rest : List X) × (sum_by f ys ≡ f x + sum_by f rest) × ((z : X) → IsIn z ys → (z ≡ x) ⊎ IsIn z rest)

turned : (a b s t : ℕ) → s ≡ a + t → b + s ≡ a + (b + t)
turned a b s t h = omega arith

without_later : {X : Type 0} (f : X → ℕ) (x y : X) (ys : List X) → Without f x ys → Without f x (y ∷ ys)
without_later {X} f x y ys w = (
  y ∷ w.0,
  sum_by-cons f y ys ∙ (turned (f x) (f y) (sum_by f ys) (sum_by f w.0) w.1 ∙ ap (λ (n : ℕ). f x + n) (sym (sum_by-cons f y w.0))),
  λ z h. go z h,
)
  where
    swap : (z : X) → (z ≡ x) ⊎ IsIn z w.0 → (z ≡ x) ⊎ IsIn z (y ∷ w.0)
    swap z (inl e) = inl e
    swap z (inr h) = inr (inr h)

    go : (z : X) → IsIn z (y ∷ ys) → (z ≡ x) ⊎ IsIn z (y ∷ w.0)
    go z (inl e) = inr (inl e)
    go z (inr h) = swap z (w.2 z h)

take_out : {X : Type 0} (f : X → ℕ) (x : X) (ys : List X) → IsIn x ys → Without f x ys
take_out {X} f x [] h = absurd h
take_out {X} f x (y ∷ ys) (inl e) = (ys, sum_by-cons f y ys ∙ ap (λ (z : X). f z + sum_by f ys) (sym e), λ z h. go z h)
  where
    go : (z : X) → IsIn z (y ∷ ys) → (z ≡ x) ⊎ IsIn z ys
    go z (inl g) = inl (g ∙ sym e)
    go z (inr h) = inr h
take_out {X} f x (y ∷ ys) (inr h) = without_later f x y ys (take_out f x ys h)

more_le : (a s t b c : ℕ) → b ≡ a + s → c ≡ a + t → s ≤ t → b ≤ c
more_le a s t b c h k le = omega arith

-- elements that differ, each of them in another list, have no greater sum than that list
pub sum-apart_le : {X : Type 0} (f : X → ℕ) (xs ys : List X) → IsApart xs → ((x : X) → IsIn x xs → IsIn x ys) → sum_by f xs ≤ sum_by f ys
sum-apart_le {X} f [] ys h each = omega arith
sum-apart_le {X} f (x ∷ xs) ys h each =
    more_le (f x) (sum_by f xs) (sum_by f w.0) (sum_by f (x ∷ xs)) (sum_by f ys) (sum_by-cons f x xs) w.1
    (sum-apart_le f xs w.0 h.1 (λ z g. other z g (w.2 z (each z (inr g)))))
  where
    w : Without f x ys
    w = take_out f x ys (each x (inl refl))

    other : (z : X) → IsIn z xs → (z ≡ x) ⊎ IsIn z w.0 → IsIn z w.0
    other z g (inl e) = absurd (absent x xs h.0 (subst (λ v. IsIn v xs) e g))
    other z g (inr k) = k

one_each : {X : Type 0} (xs : List X) → sum_by (λ (x : X). 1) xs ≡ length xs
one_each [] = refl
one_each {X} (x ∷ xs) = sum_by-cons (λ (y : X). 1) x xs ∙ one_more (one_each xs)
  where
    one_more : {n m : ℕ} → n ≡ m → 1 + n ≡ suc m
    one_more e = omega arith

-- elements that differ, each of them in another list, are no more than that list has
pub length-apart_le : {X : Type 0} (xs ys : List X) → IsApart xs → ((x : X) → IsIn x xs → IsIn x ys) → length xs ≤ length ys
length-apart_le {X} xs ys h each =
    subst (λ n. n ≤ length ys) (one_each xs) (subst (λ n. sum_by (λ (x : X). 1) xs ≤ n) (one_each ys) (sum-apart_le (λ (x : X). 1) xs ys h each))
