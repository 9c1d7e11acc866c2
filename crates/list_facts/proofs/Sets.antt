-- Lists in a strict order in parts: what they are with an element and without one, where what stands before a part is
-- less and what stands after it is greater.
use Rattle.std.proofs.Common.{◌≡◌, List, [], ◌∷◌, ◌++◌, Bool, true, false, not, refl, ap, ◌∙◌, append-nil, append_assoc}
use Rattle.std.specs.List.{AllByRecursion, filter}
use Rattle.std.specs.Ordering.{is_lt, is_eq, is_gt}
use Rattle.std.specs.declared.cmp.Ordering.TheVariants.{Less, Equal, Greater}
use Rattle.std.specs.declared.cmp.Ordering.{Ordering}
use Rattle.std.proofs.lemmas.Bool.{cond-true, cond-false}
use Rattle.std.proofs.lemmas.List.Elements.{filter-append}
use Rattle.list_facts.specs.Sets.{AreLess, AreGreater, has_tie, with_item, without_ties, ties_in}
use Rattle.list_facts.proofs.Each.{each}
use Rattle.list_facts.proofs.Tests.{kept, dropped, any-skip, any-short}

abbrev is_other : Ordering → Bool
is_other o = not (is_eq o)

module _ {X : Type 0} (order : X → Ordering) where
  -- what a test of the order says of each
  tests : (t : Ordering → Bool) (o : Ordering) (v : Bool) (xs : List X) → t o ≡ v → AllByRecursion (λ x. order x ≡ o) xs → AllByRecursion (λ x. t (order x) ≡ v) xs
  tests t o v xs e h = each (λ x. order x ≡ o) (λ x. t (order x) ≡ v) (λ x r. ap t r ∙ e) xs h

  -- a filter by the order, over what is less, a part, and what is greater
  parted : (t : Ordering → Bool) (f m b : List X) → filter (λ x. t (order x)) (f ++ (m ++ b)) ≡ filter (λ x. t (order x)) f ++ (filter (λ x. t (order x)) m ++ filter (λ x. t (order x)) b)
  parted t f m b = filter-append (λ x. t (order x)) f (m ++ b) ∙ ap (λ r. filter (λ x. t (order x)) f ++ r) (filter-append (λ x. t (order x)) m b)

  keeps : (t : Ordering → Bool) (o : Ordering) (xs : List X) → t o ≡ true → AllByRecursion (λ x. order x ≡ o) xs → filter (λ x. t (order x)) xs ≡ xs
  keeps t o xs e h = kept (λ x. t (order x)) xs (tests t o true xs e h)

  drops : (t : Ordering → Bool) (o : Ordering) (xs : List X) → t o ≡ false → AllByRecursion (λ x. order x ≡ o) xs → filter (λ x. t (order x)) xs ≡ []
  drops t o xs e h = dropped (λ x. t (order x)) xs (tests t o false xs e h)

  joined : (f l r b : List X) (x : X) → (f ++ (l ++ [])) ++ x ∷ ([] ++ (r ++ b)) ≡ f ++ ((l ++ x ∷ r) ++ b)
  joined f l r b x = simp (append-nil, append_assoc)

  module _ (f m b : List X) (low : AreLess order f) (high : AreGreater order b) where
    pub with-part : (item : X) → with_item order item (f ++ (m ++ b)) ≡ f ++ (with_item order item m ++ b)
    with-part item = (λ i. (parted is_lt f m b ∙ (λ j. keeps is_lt Less f refl low j ++ (filter (λ x. is_lt (order x)) m ++ drops is_lt Greater b refl high j))) i
        ++ item ∷ (parted is_gt f m b ∙ (λ j. drops is_gt Less f refl low j ++ (filter (λ x. is_gt (order x)) m ++ keeps is_gt Greater b refl high j))) i)
        ∙ joined f (filter (λ x. is_lt (order x)) m) (filter (λ x. is_gt (order x)) m) b item

    pub without-part : without_ties order (f ++ (m ++ b)) ≡ f ++ (without_ties order m ++ b)
    without-part = parted is_other f m b ∙ (λ j. keeps is_other Less f refl low j ++ (filter (λ x. is_other (order x)) m ++ keeps is_other Greater b refl high j))

    pub has-part : has_tie order (f ++ (m ++ b)) ≡ has_tie order m
    has-part = any-skip (λ x. is_eq (order x)) f (m ++ b) (tests is_eq Less false f refl low)
        ∙ any-short (λ x. is_eq (order x)) m b (tests is_eq Greater false b refl high)

    pub only-part : ties_in order (f ++ (m ++ b)) ≡ ties_in order m
    only-part = parted is_eq f m b
        ∙ (λ j. drops is_eq Less f refl low j ++ (filter (λ x. is_eq (order x)) m ++ drops is_eq Greater b refl high j))
        ∙ append-nil (filter (λ x. is_eq (order x)) m)

  -- a part of one element that ties
  at : (t : Ordering → Bool) (v : Bool) (x : X) → order x ≡ Equal → t Equal ≡ v → t (order x) ≡ v
  at t v x tie e = ap t tie ∙ e

  pub with-one : (item x : X) → order x ≡ Equal → with_item order item (x ∷ []) ≡ item ∷ []
  with-one item x tie = λ i. cond-false (is_lt (order x)) (x ∷ []) [] (at is_lt false x tie refl) i ++ item ∷ cond-false (is_gt (order x)) (x ∷ []) [] (at is_gt false x tie refl) i

  pub without-one : (x : X) → order x ≡ Equal → without_ties order (x ∷ []) ≡ []
  without-one x tie = cond-false (is_other (order x)) (x ∷ []) [] (at is_other false x tie refl)

  pub only-one : (x : X) → order x ≡ Equal → ties_in order (x ∷ []) ≡ x ∷ []
  only-one x tie = cond-true (is_eq (order x)) (x ∷ []) [] (at is_eq true x tie refl)

  pub has-one : (x : X) → order x ≡ Equal → has_tie order (x ∷ []) ≡ true
  has-one x tie = rw (at is_eq true x tie refl) refl
