-- Lists in a strict order as sets: `order` says how an element stands beside the one that is looked for.
use Rattle.std.specs.Prelude.{◌≡◌, List, ◌∷◌, ◌++◌, Bool, not}
use Rattle.std.specs.List.{AllByRecursion, filter, list_any}
use Rattle.std.specs.Ordering.{is_lt, is_eq, is_gt}
use Rattle.std.specs.declared.cmp.Ordering.{Ordering}
use Rattle.std.specs.declared.cmp.Ordering.TheVariants.{Less, Greater}

-- each element is less
abbrev pub AreLess : {X : Type 0} → (X → Ordering) → List X → Type 0
AreLess order xs = AllByRecursion (λ x. order x ≡ Less) xs

-- each element is greater
abbrev pub AreGreater : {X : Type 0} → (X → Ordering) → List X → Type 0
AreGreater order xs = AllByRecursion (λ x. order x ≡ Greater) xs

-- whether an element ties
abbrev pub has_tie : {X : Type 0} → (X → Ordering) → List X → Bool
has_tie order xs = list_any (λ x. is_eq (order x)) xs

-- the list with this element: those that are less, the element, and those that are greater
abbrev pub with_item : {X : Type 0} → (X → Ordering) → X → List X → List X
with_item order item xs =
    filter (λ x. is_lt (order x)) xs ++ item ∷ filter (λ x. is_gt (order x)) xs

-- the list without what ties
abbrev pub without_ties : {X : Type 0} → (X → Ordering) → List X → List X
without_ties order xs = filter (λ x. not (is_eq (order x))) xs

-- what ties
abbrev pub ties_in : {X : Type 0} → (X → Ordering) → List X → List X
ties_in order xs = filter (λ x. is_eq (order x)) xs
