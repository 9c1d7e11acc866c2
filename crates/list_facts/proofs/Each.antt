-- What holds of each element of a list.
use Rattle.std.proofs.Common.{◌≡◌, Bool, true, false, cond, List, [], ◌∷◌, ◌++◌, map, filter}
use Rattle.std.specs.List.{AllByRecursion}

-- what follows from a fact of each element holds of each
pub each : {X : Type 0} (P Q : X → Type 0) → ((x : X) → P x → Q x) → (xs : List X) → AllByRecursion P xs → AllByRecursion Q xs
each P Q h [] a = tt
each P Q h (x ∷ xs) a = (h x a.0, each P Q h xs a.1)

-- what follows from two facts of each element holds of each
pub both_each : {X : Type 0} (P Q R : X → Type 0) (xs : List X) → ((x : X) → P x → Q x → R x) → AllByRecursion P xs → AllByRecursion Q xs → AllByRecursion R xs
both_each P Q R [] f ps qs = tt
both_each P Q R (x ∷ xs) f ps qs = (f x ps.0 qs.0, both_each P Q R xs f ps.1 qs.1)

-- what holds of all there is holds of each element
pub all_hold : {X : Type 0} (P : X → Type 0) → ((x : X) → P x) → (xs : List X) → AllByRecursion P xs
all_hold P h [] = tt
all_hold P h (x ∷ xs) = (h x, all_hold P h xs)

-- two lists, one after the other
pub all-append : {X : Type 0} (P : X → Type 0) (xs ys : List X) → AllByRecursion P xs → AllByRecursion P ys → AllByRecursion P (xs ++ ys)
all-append P [] ys a b = b
all-append P (x ∷ xs) ys a b = (a.0, all-append P xs ys a.1 b)

pub all-left : {X : Type 0} (P : X → Type 0) (xs ys : List X) → AllByRecursion P (xs ++ ys) → AllByRecursion P xs
all-left P [] ys a = tt
all-left P (x ∷ xs) ys a = (a.0, all-left P xs ys a.1)

pub all-right : {X : Type 0} (P : X → Type 0) (xs ys : List X) → AllByRecursion P (xs ++ ys) → AllByRecursion P ys
all-right P [] ys a = a
all-right P (x ∷ xs) ys a = all-right P xs ys a.1

-- one element more, at the end
pub all_push : {X : Type 0} (P : X → Type 0) (xs : List X) (y : X) → AllByRecursion P xs → P y → AllByRecursion P (xs ++ y ∷ [])
all_push P xs y all one = all-append P xs (y ∷ []) all (one, tt)

-- an element between two lists
pub all-middle : {X : Type 0} (P : X → Type 0) (y : X) (xs ys : List X) → AllByRecursion P (xs ++ y ∷ ys) → P y
all-middle P y xs ys a = (all-right P xs (y ∷ ys) a).0

pub all-with_middle : {X : Type 0} (P : X → Type 0) (y : X) (xs ys : List X) → AllByRecursion P (xs ++ ys) → P y → AllByRecursion P (xs ++ y ∷ ys)
all-with_middle P y xs ys a one = all-append P xs (y ∷ ys) (all-left P xs ys a) (one, all-right P xs ys a)

pub all-without_middle : {X : Type 0} (P : X → Type 0) (y : X) (xs ys : List X) → AllByRecursion P (xs ++ y ∷ ys) → AllByRecursion P (xs ++ ys)
all-without_middle P y xs ys a = all-append P xs ys (all-left P xs (y ∷ ys) a) (all-right P xs (y ∷ ys) a).1

-- the elements that pass a test
pub all-filter : {X : Type 0} (P : X → Type 0) (t : X → Bool) (xs : List X) → AllByRecursion P xs → AllByRecursion P (filter t xs)
all-filter P t [] a = tt
all-filter P t (x ∷ xs) a = elim (t x) as (λ v. AllByRecursion P (cond v (x ∷ filter t xs) (filter t xs))) [ true ↦ (a.0, all-filter P t xs a.1) | false ↦ all-filter P t xs a.1 ]

one_passed : {X : Type 0} (t : X → Bool) (x : X) (rest : List X) → AllByRecursion (λ y. t y ≡ true) rest → (v : Bool) → t x ≡ v → AllByRecursion (λ y. t y ≡ true) (cond v (x ∷ rest) rest)
one_passed t x rest h true e = (e, h)
one_passed t x rest h false e = h

-- each of them passes
pub all_passed : {X : Type 0} (t : X → Bool) (xs : List X) → AllByRecursion (λ x. t x ≡ true) (filter t xs)
all_passed t [] = tt
all_passed t (x ∷ xs) = one_passed t x (filter t xs) (all_passed t xs) (t x) (λ i. t x)

-- what holds of each element of a mapped list, said of the elements before
pub each_mapped : {X Y : Type 0} (P : Y → Type 0) (f : X → Y) (xs : List X) → AllByRecursion P (map f xs) → AllByRecursion (λ (x : X). P (f x)) xs
each_mapped P f [] all = tt
each_mapped P f (x ∷ xs) all = (all.0, each_mapped P f xs all.1)
