-- What is in a set with a pair and without it.
use Rattle.std.proofs.Common.{◌≡◌, ◌≢◌, List, ◌∷◌, ◌++◌, true, false, not, refl, ap, ◌∙◌, inl, inr, ◌⊎◌}
use Rattle.std.specs.List.{filter}
use Rattle.std.specs.Ordering.{is_lt, is_eq, is_gt}
use Rattle.std.specs.declared.cmp.Ordering.{Ordering}
use Rattle.std.specs.declared.cmp.Ordering.TheVariants.{Less, Equal, Greater}
use Rattle.list_facts.specs.Members.{IsIn}
use Rattle.list_facts.proofs.Members.{IsIn-append_left, IsIn-append_right, IsIn-append_cases, IsIn-filter, IsIn-filter_from}
use Rattle.grants.specs.Pairs.{Pair, pair_cmp, has_pair, with_pair, without_pair}
use Rattle.grants.proofs.Members.{IsIn-from_has, has-from_IsIn, filtered, unfiltered}
use Rattle.grants.proofs.Order.{same_pair, tied}

-- the pairs of a set that come before a pair, and those that come after it
abbrev lows : Pair → List Pair → List Pair
lows p ps = filter (λ r. is_lt (pair_cmp r p)) ps

abbrev highs : Pair → List Pair → List Pair
highs p ps = filter (λ r. is_gt (pair_cmp r p)) ps

pub comes : (p q : Pair) (ps : List Pair) → has_pair q (with_pair p ps) ≡ true → (q ≡ p) ⊎ (has_pair q ps ≡ true)
unfolding with_pair
comes p q ps e = by (IsIn-append_cases q (lows p ps) (p ∷ highs p ps) (IsIn-from_has q (lows p ps ++ p ∷ highs p ps) e))
  where
    by : IsIn q (lows p ps) ⊎ IsIn q (p ∷ highs p ps) → (q ≡ p) ⊎ (has_pair q ps ≡ true)
    by (inl low) = inr (has-from_IsIn q ps (IsIn-filter_from (λ r. is_lt (pair_cmp r p)) q ps low).0)
    by (inr (inl here)) = inl here
    by (inr (inr high)) = inr (has-from_IsIn q ps (IsIn-filter_from (λ r. is_gt (pair_cmp r p)) q ps high).0)

stays_in : (p q : Pair) (ps : List Pair) → IsIn q ps → (o : Ordering) → pair_cmp q p ≡ o → IsIn q (lows p ps ++ p ∷ highs p ps)
stays_in p q ps h Less is = IsIn-append_left q (lows p ps) (p ∷ highs p ps) (IsIn-filter (λ r. is_lt (pair_cmp r p)) q ps h (ap is_lt is))
stays_in p q ps h Equal is = IsIn-append_right q (lows p ps) (p ∷ highs p ps) (inl (same_pair q p is))
stays_in p q ps h Greater is = IsIn-append_right q (lows p ps) (p ∷ highs p ps) (inr (IsIn-filter (λ r. is_gt (pair_cmp r p)) q ps h (ap is_gt is)))

pub stays : (p q : Pair) (ps : List Pair) → (q ≡ p) ⊎ (has_pair q ps ≡ true) → has_pair q (with_pair p ps) ≡ true
unfolding with_pair
stays p q ps (inl e) = has-from_IsIn q (lows p ps ++ p ∷ highs p ps) (IsIn-append_right q (lows p ps) (p ∷ highs p ps) (inl e))
stays p q ps (inr e) = has-from_IsIn q (lows p ps ++ p ∷ highs p ps) (stays_in p q ps (IsIn-from_has q ps e) (pair_cmp q p) refl)

other : (p q : Pair) → q ≢ p → not (is_eq (pair_cmp q p)) ≡ true
other p q ne = by (pair_cmp q p) refl
  where
    by : (o : Ordering) → pair_cmp q p ≡ o → not (is_eq o) ≡ true
    by Less is = refl
    by Equal is = absurd (ne (same_pair q p is))
    by Greater is = refl

pub gone : (p q : Pair) (ps : List Pair) → has_pair q (without_pair p ps) ≡ true → (q ≢ p) × (has_pair q ps ≡ true)
unfolding without_pair
gone p q ps e =
    let parts = unfiltered (λ r. not (is_eq (pair_cmp r p))) q ps e in
    (λ same. let tie : pair_cmp q p ≡ Equal = ap (λ r. pair_cmp r p) same ∙ tied p in let t = parts.1 in let u : not (is_eq (pair_cmp q p)) ≡ false = ap (λ o. not (is_eq o)) tie in cc, parts.0)

pub left : (p q : Pair) (ps : List Pair) → (q ≢ p) × (has_pair q ps ≡ true) → has_pair q (without_pair p ps) ≡ true
unfolding without_pair
left p q ps h = filtered (λ r. not (is_eq (pair_cmp r p))) q ps h.1 (other p q h.0)
