-- What holds of each two elements of a list, the one before the other.
use Rattle.std.proofs.Common.{◌≡◌, ℕ, zero, suc, ◌+◌, ◌<◌, Bool, true, false, cond, List, [], ◌∷◌, ◌++◌, length, get_or, filter, sym, subst, ◌⊎◌, inl, inr, arith, take, drop}
use Rattle.std.specs.List.{AllByRecursion}
use Rattle.std.proofs.lemmas.List.{take-append-drop}
use Rattle.list_facts.specs.Members.{IsIn}
use Rattle.list_facts.specs.Apart.{Pairs}
use Rattle.list_facts.proofs.Each.{all-left, all-middle, all-with_middle, all-without_middle, all-filter}
use Rattle.list_facts.proofs.Members.{IsIn-append_right, IsIn-append_cases, at_member, each_member}

-- what follows from each of two cases
pub either : (P Q R : Type 0) → (P → R) → (Q → R) → P ⊎ Q → R
either P Q R f g (inl p) = f p
either P Q R f g (inr q) = g q

-- two lists, one after the other: each two elements of each, and each one of the first with each of the second
pub Pairs-append : {X : Type 0} (R : X → X → Type 0) (xs ys : List X) → Pairs R xs → Pairs R ys
    → ((x y : X) → IsIn x xs → IsIn y ys → R x y) → Pairs R (xs ++ ys)
Pairs-append R [] ys one two across = two
Pairs-append R (x ∷ xs) ys one two across = (
  each_member (R x) (xs ++ ys) (λ y h. either (IsIn y xs) (IsIn y ys) (R x y)
      (λ g. at_member (R x) y xs one.0 g) (λ g. across x y (inl (λ i. x)) g) (IsIn-append_cases y xs ys h)),
  Pairs-append R xs ys one.1 two (λ z y h g. across z y (inr h) g),
)

pub Pairs-left : {X : Type 0} (R : X → X → Type 0) (xs ys : List X) → Pairs R (xs ++ ys) → Pairs R xs
Pairs-left R [] ys h = tt
Pairs-left R (x ∷ xs) ys h = (all-left (R x) xs ys h.0, Pairs-left R xs ys h.1)

pub Pairs-right : {X : Type 0} (R : X → X → Type 0) (xs ys : List X) → Pairs R (xs ++ ys) → Pairs R ys
Pairs-right R [] ys h = h
Pairs-right R (x ∷ xs) ys h = Pairs-right R xs ys h.1

pub Pairs-across : {X : Type 0} (R : X → X → Type 0) (xs ys : List X) → Pairs R (xs ++ ys) → (x y : X) → IsIn x xs → IsIn y ys → R x y
Pairs-across R [] ys h x y g k = absurd g
Pairs-across R (z ∷ xs) ys h x y (inl e) k =
    subst (λ v. R v y) (sym e) (at_member (R z) y (xs ++ ys) h.0 (IsIn-append_right y xs ys k))
Pairs-across R (z ∷ xs) ys h x y (inr g) k = Pairs-across R xs ys h.1 x y g k

-- the two lists change places, where the order of two elements is free
pub Pairs-swap : {X : Type 0} (R : X → X → Type 0) → ((x y : X) → R x y → R y x) → (xs ys : List X) → Pairs R (xs ++ ys) → Pairs R (ys ++ xs)
Pairs-swap R turn xs ys h =
    Pairs-append R ys xs (Pairs-right R xs ys h) (Pairs-left R xs ys h) (λ y x g k. turn x y (Pairs-across R xs ys h x y k g))

-- the first elements, and the rest
pub Pairs-take : {X : Type 0} (R : X → X → Type 0) (n : ℕ) (xs : List X) → Pairs R xs → Pairs R (take n xs)
Pairs-take R n xs h = Pairs-left R (take n xs) (drop n xs) (subst (Pairs R) (sym (take-append-drop n xs)) h)

pub Pairs-drop : {X : Type 0} (R : X → X → Type 0) (n : ℕ) (xs : List X) → Pairs R xs → Pairs R (drop n xs)
Pairs-drop R n xs h = Pairs-right R (take n xs) (drop n xs) (subst (Pairs R) (sym (take-append-drop n xs)) h)

-- an element between two lists: how those before it stand to it, and how it stands to those after it
pub Pairs-before : {X : Type 0} (R : X → X → Type 0) (y : X) (xs ys : List X) → Pairs R (xs ++ y ∷ ys) → AllByRecursion (λ (x : X). R x y) xs
Pairs-before R y [] ys h = tt
Pairs-before R y (x ∷ xs) ys h = (all-middle (R x) y xs ys h.0, Pairs-before R y xs ys h.1)

pub Pairs-after : {X : Type 0} (R : X → X → Type 0) (y : X) (xs ys : List X) → Pairs R (xs ++ y ∷ ys) → AllByRecursion (R y) ys
Pairs-after R y xs ys h = (Pairs-right R xs (y ∷ ys) h).0

-- an element goes in between, and is taken out
pub Pairs-insert : {X : Type 0} (R : X → X → Type 0) (y : X) (xs ys : List X) → Pairs R (xs ++ ys) → AllByRecursion (λ (x : X). R x y) xs → AllByRecursion (R y) ys → Pairs R (xs ++ y ∷ ys)
Pairs-insert R y [] ys h before after = (after, h)
Pairs-insert R y (x ∷ xs) ys h before after = (all-with_middle (R x) y xs ys h.0 before.0, Pairs-insert R y xs ys h.1 before.1 after)

pub Pairs-remove : {X : Type 0} (R : X → X → Type 0) (y : X) (xs ys : List X) → Pairs R (xs ++ y ∷ ys) → Pairs R (xs ++ ys)
Pairs-remove R y [] ys h = h.1
Pairs-remove R y (x ∷ xs) ys h = (all-without_middle (R x) y xs ys h.0, Pairs-remove R y xs ys h.1)

-- the elements that pass a test
pub Pairs-filter : {X : Type 0} (R : X → X → Type 0) (t : X → Bool) (xs : List X) → Pairs R xs → Pairs R (filter t xs)
Pairs-filter R t [] h = tt
Pairs-filter R t (x ∷ xs) h = elim (t x) as (λ v. Pairs R (cond v (x ∷ filter t xs) (filter t xs))) [
  | true ↦ (all-filter (R x) t xs h.0, Pairs-filter R t xs h.1)
  | false ↦ Pairs-filter R t xs h.1
]

-- an element and the next one
pub Pairs-adjacent : {X : Type 0} (R : X → X → Type 0) (xs : List X) → Pairs R xs → (k : ℕ) (d : X) → k + 1 < length xs → R (get_or xs k d) (get_or xs (k + 1) d)
Pairs-adjacent R [] h k d lt = absurd (omega arith)
Pairs-adjacent R (x ∷ []) h k d lt = absurd (omega arith)
Pairs-adjacent R (x ∷ y ∷ xs) h zero d lt = h.0.0
Pairs-adjacent R (x ∷ y ∷ xs) h (suc k) d lt = let e : suc k + 1 ≡ suc (k + 1) = omega arith in rw e (Pairs-adjacent R (y ∷ xs) h.1 k d (omega arith))
