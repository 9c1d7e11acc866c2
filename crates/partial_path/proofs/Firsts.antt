-- The first element that a list gives, part by part.
use Rattle.std.proofs.Common.{◌≡◌, refl, sym, ◌∙◌, ap, subst, ℕ, zero, suc, ◌<◌, List, [], ◌∷◌, ◌++◌, length, take, Option, Some, None, slice_get, get_or, arith}
use Rattle.std.specs.List.{flat_map}
use Rattle.std.proofs.lemmas.Grind.{flat_map-append}
use Rattle.std.proofs.lemmas.List.{append_assoc}

-- the list is not empty, so it isn't the empty one
abbrev cons_or_nil : {Y : Type 0} → List Y → Type 0
cons_or_nil [] = ⊥
cons_or_nil (y ∷ ys) = Unit {0}

nil-left : {Y : Type 0} (xs ys : List Y) → xs ++ ys ≡ [] → xs ≡ []
nil-left [] ys e = refl
nil-left (x ∷ xs) ys e = absurd (subst cons_or_nil e tt)

nil-right : {Y : Type 0} (xs ys : List Y) → xs ++ ys ≡ [] → ys ≡ []
nil-right [] ys e = e
nil-right (x ∷ xs) ys e = absurd (subst cons_or_nil e tt)

abbrev some_or_none : {Y : Type 0} → Option Y → Type 0
some_or_none None = ⊥
some_or_none (Some y) = Unit {0}

first-append_left : {Y : Type 0} (xs ys : List Y) (y : Y) → slice_get xs 0 ≡ Some y → slice_get (xs ++ ys) 0 ≡ Some y
first-append_left [] ys y e = absurd (subst some_or_none (sym e) tt)
first-append_left (x ∷ xs) ys y e = e

first-append_right : {Y : Type 0} (xs ys : List Y) (y : Y) → xs ≡ [] → slice_get ys 0 ≡ Some y → slice_get (xs ++ ys) 0 ≡ Some y
first-append_right xs ys y n e = ap (λ zs. slice_get (zs ++ ys) 0) n ∙ e

-- where the lists before give nothing, the first element is that of the first list that gives one
given_here : {X Y Z : Type 0} (f : X → List Y) (g : Y → List Z) (a x : X) (more ys : List Y) (z : Z)
    → x ≡ a → slice_get (flat_map g (f x)) 0 ≡ Some z → slice_get (flat_map g ((f a ++ more) ++ ys)) 0 ≡ Some z
given_here f g a x more ys z e given =
    ap (λ zs. slice_get (flat_map g zs) 0) (append_assoc (f a) more ys)
    ∙ ap (λ zs. slice_get zs 0) (flat_map-append g (f a) (more ++ ys))
    ∙ first-append_left (flat_map g (f a)) (flat_map g (more ++ ys)) z (ap (λ b. slice_get (flat_map g (f b)) 0) (sym e) ∙ given)

given_later : {Y Z : Type 0} (g : Y → List Z) (here more ys : List Y) (z : Z)
    → flat_map g here ≡ [] → slice_get (flat_map g (more ++ ys)) 0 ≡ Some z → slice_get (flat_map g ((here ++ more) ++ ys)) 0 ≡ Some z
given_later g here more ys z none given =
    ap (λ zs. slice_get (flat_map g zs) 0) (append_assoc here more ys)
    ∙ ap (λ zs. slice_get zs 0) (flat_map-append g here (more ++ ys))
    ∙ first-append_right (flat_map g here) (flat_map g (more ++ ys)) z none given

pub first_given : {X Y Z : Type 0} (f : X → List Y) (g : Y → List Z) (xs : List X) (i : ℕ) (x : X) (ys : List Y) (z : Z)
    → flat_map g (flat_map f (take i xs)) ≡ [] → i < length xs → x ≡ get_or xs i x → slice_get (flat_map g (f x)) 0 ≡ Some z
    → slice_get (flat_map g (flat_map f xs ++ ys)) 0 ≡ Some z
first_given f g [] i x ys z none below e given = absurd (omega arith)
first_given f g (a ∷ xs) zero x ys z none below e given = given_here f g a x (flat_map f xs) ys z e given
first_given f g (a ∷ xs) (suc i) x ys z none below e given =
    let both = sym (flat_map-append g (f a) (flat_map f (take i xs))) ∙ none in
    given_later g (f a) (flat_map f xs) ys z (nil-left (flat_map g (f a)) (flat_map g (flat_map f (take i xs))) both)
    (first_given f g xs i x ys z (nil-right (flat_map g (f a)) (flat_map g (flat_map f (take i xs))) both) (omega arith) e given)
