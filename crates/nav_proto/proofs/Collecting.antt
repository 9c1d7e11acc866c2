-- A list of values that are all there, taken one by one.
use Rattle.std.proofs.Common.{◌≡◌, List, [], ◌∷◌, ◌++◌, Option, None, Some, refl, sym, ap, ◌∙◌, option_map, map, length, subst, arith, append-nil, append_assoc}
use Rattle.nav_proto.specs.Edits.{all_some}

-- so many are there, and the whole is those and what is left
abbrev pub Goes : {A : Type 0} → List A → List (Option A) → Option (List A) → Type 0
Goes xs os whole = whole ≡ option_map (λ ys. xs ++ ys) (all_some os)

pub begins : {A : Type 0} (os : List (Option A)) → Goes [] os (all_some os)
begins os = by (all_some os)
  where
    by : {A : Type 0} (o : Option (List A)) → o ≡ option_map (λ ys. [] ++ ys) o
    by None = refl
    by (Some ys) = refl

pub goes_on : {A : Type 0} (xs : List A) (o : Option A) (e : A) (os : List (Option A)) (whole : Option (List A)) → Goes xs (o ∷ os) whole → o ≡ Some e → Goes (xs ++ e ∷ []) os whole
goes_on xs None e os whole g is = cc
goes_on xs (Some x) e os whole g is = g ∙ by (all_some os)
  where
    same : x ≡ e
    same = cc

    by : (o : Option (List _)) → option_map (λ ys. xs ++ ys) (option_map (λ ys. x ∷ ys) o) ≡ option_map (λ ys. (xs ++ e ∷ []) ++ ys) o
    by None = refl
    by (Some ys) = (λ i. Some (xs ++ same i ∷ ys)) ∙ ap Some (sym (append_assoc xs (e ∷ []) ys))

pub stops : {A : Type 0} (xs : List A) (o : Option A) (os : List (Option A)) (whole : Option (List A)) → Goes xs (o ∷ os) whole → o ≡ None → whole ≡ None
stops xs None os whole g is = g
stops xs (Some x) os whole g is = cc

pub ends : {A : Type 0} (xs : List A) (whole : Option (List A)) → Goes xs [] whole → whole ≡ Some xs
ends xs whole g = g ∙ ap Some (append-nil xs)

-- the same as a loop over values has it, which takes the first of what is left
module _ {V D A : Type 0} (f : D → Option A) (w : V → D) (whole : Option (List A)) where
  at_first : (xs : List A) (v : V) (rest vs : List V) → rest ≡ v ∷ vs → Goes xs (map f (map w rest)) whole → Goes xs (f (w v) ∷ map f (map w vs)) whole
  at_first xs v rest vs is g = subst (λ (r : List V). Goes xs (map f (map w r)) whole) is g

  pub taken : (xs xs' : List A) (v : V) (rest vs : List V) (e : A) → rest ≡ v ∷ vs → f (w v) ≡ Some e → xs' ≡ xs ++ e ∷ [] → Goes xs (map f (map w rest)) whole → Goes xs' (map f (map w vs)) whole
  taken xs xs' v rest vs e is reads longer g = subst (λ (ys : List A). Goes ys (map f (map w vs)) whole) (sym longer) (goes_on xs (f (w v)) e (map f (map w vs)) whole (at_first xs v rest vs is g) reads)

  pub refused : (xs : List A) (v : V) (rest vs : List V) → rest ≡ v ∷ vs → f (w v) ≡ None → Goes xs (map f (map w rest)) whole → None ≡ whole
  refused xs v rest vs is reads g = sym (stops xs (f (w v)) (map f (map w vs)) whole (at_first xs v rest vs is g) reads)

  pub done : (xs : List A) (rest : List V) → length rest ≡ 0 → Goes xs (map f (map w rest)) whole → Some xs ≡ whole
  done xs [] is g = sym (ends xs whole g)
  done xs (v ∷ vs) is g = absurd (omega arith)
