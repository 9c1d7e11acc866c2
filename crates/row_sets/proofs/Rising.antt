-- Lists that rise by a relation, of which no two elements come each before the other: their members tell them.
use Rattle.std.proofs.Common.{◌≡◌, ◌∙◌, List, [], ◌∷◌, ◌⊎◌, inl, inr, refl, sym, subst}
use Rattle.std.specs.List.{AllByRecursion}
use Rattle.list_facts.specs.Members.{IsIn}
use Rattle.list_facts.proofs.Members.{at_member}

-- each element comes before those after it
abbrev pub Rises : {X : Type 0} → (X → X → Type 0) → List X → Type 0
Rises Before [] = Unit {0}
Rises Before (x ∷ xs) = AllByRecursion (Before x) xs × Rises Before xs

module _ {X : Type 0} (Before : X → X → Type 0) (not_both : (a b : X) → Before a b → Before b a → ⊥) where
  heads : (x y : X) (xs ys : List X) → AllByRecursion (Before x) xs → AllByRecursion (Before y) ys
      → (x ≡ y) ⊎ IsIn x ys → (y ≡ x) ⊎ IsIn y xs → x ≡ y
  heads x y xs ys lx ly (inl e) m = e
  heads x y xs ys lx ly (inr h) (inl e) = sym e
  heads x y xs ys lx ly (inr h) (inr k) = absurd (not_both x y (at_member (Before x) y xs lx k) (at_member (Before y) x ys ly h))

  tail_in : (x y p : X) (xs ys : List X) → x ≡ y → AllByRecursion (Before x) xs → IsIn p xs → (p ≡ y) ⊎ IsIn p ys → IsIn p ys
  tail_in x y p xs ys same lx m (inl e) =
      let after : Before x p = at_member (Before x) p xs lx m in
      let itself : Before x x = subst (λ (z : X). Before x z) (e ∙ sym same) after in
      absurd (not_both x x itself itself)
  tail_in x y p xs ys same lx m (inr h) = h

  pub same_rising : (xs ys : List X) → Rises Before xs → Rises Before ys → ((p : X) → IsIn p xs → IsIn p ys) → ((p : X) → IsIn p ys → IsIn p xs) → xs ≡ ys
  same_rising [] [] rx ry to from = refl
  same_rising [] (y ∷ ys) rx ry to from = absurd (from y (inl refl))
  same_rising (x ∷ xs) [] rx ry to from = absurd (to x (inl refl))
  same_rising (x ∷ xs) (y ∷ ys) rx ry to from =
      let same : x ≡ y = heads x y xs ys rx.0 ry.0 (to x (inl refl)) (from y (inl refl)) in
      (λ i. same i ∷ same_rising xs ys rx.1 ry.1 (λ p m. tail_in x y p xs ys same rx.0 m (to p (inr m))) (λ p m. tail_in y x p ys xs (sym same) ry.0 m (from p (inr m))) i)
