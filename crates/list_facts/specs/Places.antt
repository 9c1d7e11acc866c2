-- Where an element stands in a list that rises, or where it would go.
use Rattle.std.specs.Prelude.{◌≡◌, List, ◌∷◌, ◌++◌, ℕ, ◌+◌, ◌<◌, ◌≤◌, length, take, drop, slice_index_or}
use Rattle.std.specs.List.{AllByRecursion}
use Rattle.std.specs.declared.cmp.Ordering.{Ordering}
use Rattle.std.specs.declared.cmp.Ordering.TheVariants.{Less, Equal, Greater}

-- one that ties stands at that place; `order` says how an element stands beside the one that is looked for
pub record IsAt {X : Type 0} (order : X → Ordering) (xs : List X) (i : ℕ) : Type 0 where
  pub in_range : i < length xs
  pub item : X
  pub here : (d : X) → slice_index_or xs i d ≡ item
  pub tie : order item ≡ Equal
  pub split : xs ≡ take i xs ++ item ∷ drop (i + 1) xs

-- one that ties would go to that place: what is before it is less, and what is from it on is greater
pub record IsGapFor {X : Type 0} (order : X → Ordering) (xs : List X) (i : ℕ) : Type 0 where
  pub in_range : i ≤ length xs
  pub before : AllByRecursion (λ x. order x ≡ Less) (take i xs)
  pub after : AllByRecursion (λ x. order x ≡ Greater) (drop i xs)
