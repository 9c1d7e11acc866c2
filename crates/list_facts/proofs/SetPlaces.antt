-- Lists in a strict order by a key: what they are with an element and without those that tie with a key, by the place
-- that the halving search found.
use Rattle.std.proofs.Common.{◌≡◌, ℕ, ◌+◌, List, [], ◌∷◌, ◌++◌, true, false, take, drop, ap, sym, ◌∙◌, subst, add-one}
use Rattle.std.specs.Cmp.{IsTotalOrder}
use Rattle.std.specs.List.{insert, remove}
use Rattle.std.specs.List.Sorted.{IsNonDecreasingBy}
use Rattle.std.specs.Ordering.{ordering_index, is_eq}
use Rattle.std.specs.declared.cmp.Ordering.{Ordering}
use Rattle.std.specs.declared.cmp.Ordering.TheVariants.{Less, Equal, Greater}
use Rattle.std.proofs.lemmas.Cmp.{alike_right}
use Rattle.std.proofs.lemmas.List.{take-append-drop}
use Rattle.list_facts.specs.Apart.{Pairs}
use Rattle.list_facts.specs.Places.{IsAt, IsGapFor}
use Rattle.list_facts.specs.Sets.{AreLess, AreGreater, has_tie, with_item, without_ties}
use Rattle.list_facts.proofs.Each.{each}
use Rattle.list_facts.proofs.Orders.{less_flipped}
use Rattle.list_facts.proofs.Pairs.{Pairs-before, Pairs-after, Pairs-adjacent}
use Rattle.list_facts.proofs.Halving.{searchable}
use Rattle.list_facts.proofs.Tests.{any-at}
use Rattle.list_facts.proofs.Sets.{has-part, with-part, without-part, with-one, without-one}

module _ {K : Type 0} {R : K → K → Ordering} (total : IsTotalOrder R) {X : Type 0} (key : X → K) where
  -- the key of the one comes before that of the other
  abbrev Comes : X → X → Type 0
  Comes x y = R (key x) (key y) ≡ Less

  -- such a list can be searched by halving
  pub set-searchable : (sought : K) (xs : List X) → Pairs Comes xs → IsNonDecreasingBy (λ (x : X). ordering_index (R (key x) sought)) xs
  set-searchable sought xs up = searchable total key xs sought (Pairs-adjacent Comes xs up)

  module _ (sought : K) where
    -- how an element stands beside the key that is looked for
    abbrev beside : X → Ordering
    beside x = R (key x) sought

    -- what is before an element that ties is less, and what is after it is greater
    pub low-before : (item : X) (f b : List X) → beside item ≡ Equal → Pairs Comes (f ++ item ∷ b) → AreLess beside f
    low-before item f b tie up =
        each (λ x. Comes x item) (λ x. beside x ≡ Less) (λ x e. sym (alike_right total (key item) sought (key x) tie) ∙ e) f (Pairs-before Comes item f b up)

    pub high-after : (item : X) (f b : List X) → beside item ≡ Equal → Pairs Comes (f ++ item ∷ b) → AreGreater beside b
    high-after item f b tie up =
        each (Comes item) (λ x. beside x ≡ Greater) (λ x e. less_flipped total sought (key x) (sym (total.congr (key item) sought (key x) tie) ∙ e)) b (Pairs-after Comes item f b up)

    module _ (xs : List X) (i : ℕ) where
      pub at-has : IsAt beside xs i → has_tie beside xs ≡ true
      at-has place = ap (has_tie beside) place.split ∙ any-at (λ x. is_eq (beside x)) place.item (take i xs) (drop (i + 1) xs) (ap is_eq place.tie)

      module _ (place : IsAt beside xs i) (up : Pairs Comes xs) where
        low : AreLess beside (take i xs)
        low = low-before place.item (take i xs) (drop (i + 1) xs) place.tie (subst (Pairs Comes) place.split up)

        high : AreGreater beside (drop (i + 1) xs)
        high = high-after place.item (take i xs) (drop (i + 1) xs) place.tie (subst (Pairs Comes) place.split up)

        -- with an element in place of the one that ties, and without that
        pub at-with : (item : X) → with_item beside item xs ≡ take i xs ++ item ∷ drop (i + 1) xs
        at-with item = ap (with_item beside item) place.split ∙ with-part beside (take i xs) (place.item ∷ []) (drop (i + 1) xs) low high item
            ∙ ap (λ r. take i xs ++ (r ++ drop (i + 1) xs)) (with-one beside item place.item place.tie)

        pub at-parts : without_ties beside xs ≡ take i xs ++ drop (i + 1) xs
        at-parts = ap (without_ties beside) place.split ∙ without-part beside (take i xs) (place.item ∷ []) (drop (i + 1) xs) low high
            ∙ ap (λ r. take i xs ++ (r ++ drop (i + 1) xs)) (without-one beside place.item place.tie)

        pub at-without : without_ties beside xs ≡ remove xs i
        at-without = at-parts ∙ (λ j. take i xs ++ drop (add-one i j) xs)

      module _ (gap : IsGapFor beside xs i) where
        -- where none ties, with an element at its gap, and without one
        pub gap-with : (item : X) → with_item beside item xs ≡ insert xs i item
        gap-with item = ap (with_item beside item) (sym (take-append-drop i xs)) ∙ with-part beside (take i xs) [] (drop i xs) gap.before gap.after item

        pub gap-without : without_ties beside xs ≡ xs
        gap-without = ap (without_ties beside) (sym (take-append-drop i xs)) ∙ without-part beside (take i xs) [] (drop i xs) gap.before gap.after ∙ take-append-drop i xs

        pub gap-has : has_tie beside xs ≡ false
        gap-has = ap (has_tie beside) (sym (take-append-drop i xs)) ∙ has-part beside (take i xs) [] (drop i xs) gap.before gap.after
