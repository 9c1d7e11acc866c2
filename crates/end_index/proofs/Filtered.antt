-- Lists in another order keep, of what passes a test, the same in another order.
use Rattle.std.proofs.Common.{ℕ, zero, suc, ◌<◌, List, [], ◌∷◌, length, filter, get_or, set, swap, Bool, true, false, cond, arith}
use Rattle.std.specs.List.Sorted.{IsPermutation}
use Rattle.std.proofs.lemmas.List.Sorted.{IsPermutation-refl, IsPermutation-cons, IsPermutation-trans, IsPermutation-middle, IsPermutation-keeps}

module _ {X : Type 0} (p : X → Bool) where
  -- what passes of the one is what passes of the other, in some order
  abbrev Alike : List X → List X → Type 0
  Alike xs ys = IsPermutation (filter p xs) (filter p ys)

  behind : (x : X) (xs ys : List X) → Alike xs ys → Alike (x ∷ xs) (x ∷ ys)
  behind x xs ys h = by (p x)
    where
      by : (b : Bool) → IsPermutation (cond b (x ∷ filter p xs) (filter p xs)) (cond b (x ∷ filter p ys) (filter p ys))
      by true = IsPermutation-cons x _ _ h
      by false = h

  turned : (x y : X) (xs : List X) → Alike (x ∷ y ∷ xs) (y ∷ x ∷ xs)
  turned x y xs = by (p x) (p y)
    where
      by : (a b : Bool) → IsPermutation (cond a (x ∷ cond b (y ∷ filter p xs) (filter p xs)) (cond b (y ∷ filter p xs) (filter p xs)))
          (cond b (y ∷ cond a (x ∷ filter p xs) (filter p xs)) (cond a (x ∷ filter p xs) (filter p xs)))
      by true true = IsPermutation-middle (x ∷ []) y (filter p xs)
      by true false = IsPermutation-refl _
      by false b = IsPermutation-refl _

  -- the first element changes places with a later one
  first_changed : (xs : List X) (j : ℕ) (x d : X) → j < length xs → Alike (x ∷ xs) (get_or xs j d ∷ set xs j x)
  first_changed [] j x d h = absurd (omega arith)
  first_changed (y ∷ xs) zero x d h = turned x y xs
  first_changed (y ∷ xs) (suc j) x d h =
      IsPermutation-trans _ _ _ (turned x y xs)
      (IsPermutation-trans _ _ _ (behind y (x ∷ xs) (get_or xs j d ∷ set xs j x) (first_changed xs j x d (omega arith))) (turned y (get_or xs j d) (set xs j x)))

  -- and any two of them
  changed : (xs : List X) (i j : ℕ) (d : X) → i < length xs → j < length xs → Alike xs (set (set xs i (get_or xs j d)) j (get_or xs i d))
  changed [] i j d h k = absurd (omega arith)
  changed (x ∷ xs) zero zero d h k = IsPermutation-refl _
  changed (x ∷ xs) zero (suc j) d h k = first_changed xs j x d (omega arith)
  changed (x ∷ xs) (suc i) zero d h k = first_changed xs i x d (omega arith)
  changed (x ∷ xs) (suc i) (suc j) d h k = behind x xs _ (changed xs i j d (omega arith) (omega arith))

  swapped : (xs : List X) (i j : ℕ) → i < length xs → j < length xs → Alike xs (swap xs i j)
  swapped [] i j h k = IsPermutation-refl _
  swapped (x ∷ xs) i j h k = changed (x ∷ xs) i j x h k

  pub filtered : (xs ys : List X) → IsPermutation xs ys → IsPermutation (filter p xs) (filter p ys)
  filtered xs = IsPermutation-keeps xs (Alike xs) (IsPermutation-refl _) (λ ys i j h k same. IsPermutation-trans _ _ _ same (swapped ys i j h k))
