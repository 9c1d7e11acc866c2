-- The laws of lists of one type: members, lists in which no element stands twice, and lists in a strict order.
use Rattle.std.specs.Prelude.{◌≡◌, ◌≤◌, ◌↔◌, ℕ, List, ◌++◌, length, Contains, Result, IfOk, IfErr}
use Rattle.std.specs.List.{sum_by}
use Rattle.std.specs.List.Sorted.{IsNonDecreasingBy, IsBinarySearchResult, IsSearchInRange}
use Rattle.std.specs.Ordering.{ordering_index}
use Rattle.std.specs.declared.cmp.Ordering.{Ordering}
use Rattle.list_facts.specs.Members.{IsIn}
use Rattle.list_facts.specs.Apart.{IsApart}
use Rattle.list_facts.specs.Places.{IsAt, IsGapFor}
use Rattle.list_facts.specs.Sets.{AreLess, AreGreater, has_tie, with_item, without_ties}

-- an element stands in a list exactly where the list contains it
abbrev pub MembersAreContained : Type 0 → Type 0
MembersAreContained X = (xs : List X) (x : X) → IsIn x xs ↔ Contains xs x

-- lists that are apart and share no element are apart together
abbrev pub ApartListsJoin : Type 0 → Type 0
ApartListsJoin X =
    (xs ys : List X) → IsApart xs → IsApart ys → ((x : X) → IsIn x xs → IsIn x ys → ⊥)
    → IsApart (xs ++ ys)

-- elements that differ, each of them in another list, are no more than that list has
abbrev pub ApartListsAreShort : Type 0 → Type 0
ApartListsAreShort X =
    (xs ys : List X) → IsApart xs → ((x : X) → IsIn x xs → IsIn x ys) → length xs ≤ length ys

-- nor have they a greater sum
abbrev pub ApartSumsAreLow : Type 0 → Type 0
ApartSumsAreLow X =
    (f : X → ℕ) (xs ys : List X) → IsApart xs → ((x : X) → IsIn x xs → IsIn x ys)
    → sum_by f xs ≤ sum_by f ys

-- lists that are apart together stay so when they change places
abbrev pub ApartListsChangePlaces : Type 0 → Type 0
ApartListsChangePlaces X = (xs ys : List X) → IsApart (xs ++ ys) → IsApart (ys ++ xs)

-- the halving search finds a place where an element ties, or the one where it would go
abbrev pub HalvingFinds : Type 0 → Type 0
HalvingFinds X =
    (order : X → Ordering) (xs : List X) (r : Result ℕ ℕ)
    → IsNonDecreasingBy (λ (x : X). ordering_index (order x)) xs
    → IsSearchInRange r (length xs) → IsBinarySearchResult order xs r
    → IfOk r (IsAt order xs) × IfErr r (IsGapFor order xs)

-- between elements that are less and elements that are greater a part alone tells of an element: whether it is there,
-- and what the list is with it and without it
abbrev pub PartsTell : Type 0 → Type 0
PartsTell X =
    (order : X → Ordering) (item : X) (less part greater : List X) → AreLess order less
    → AreGreater order greater
    → (has_tie order (less ++ (part ++ greater)) ≡ has_tie order part)
    × (with_item order item (less ++ (part ++ greater))
    ≡ less ++ (with_item order item part ++ greater))
    × (without_ties order (less ++ (part ++ greater))
    ≡ less ++ (without_ties order part ++ greater))
