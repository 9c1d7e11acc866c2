-- What the halving search tells of a list that rises.
use Rattle.std.proofs.Common.{◌≡◌, ℕ, zero, suc, ◌+◌, ◌<◌, ◌≤◌, List, [], ◌∷◌, ◌++◌, length, get_or, take, drop, set, ap, arith}
use Rattle.std.specs.List.{AllByRecursion, AllWithin}
use Rattle.std.specs.List.Sorted.{IsNonDecreasingBy, IsBinarySearchResult, IsSearchInRange}
use Rattle.std.specs.Prelude.{Result, Ok, Err, IfOk, IfErr}
use Rattle.std.specs.Cmp.{IsTotalOrder}
use Rattle.std.specs.Ordering.{is_lt, ordering_index}
use Rattle.std.specs.declared.cmp.Ordering.{Ordering}
use Rattle.std.specs.declared.cmp.Ordering.TheVariants.{Less, Greater}
use Rattle.std.proofs.lemmas.List.{get_or_default}
use Rattle.std.proofs.lemmas.List.Sorted.{searchable_from_sorted}
use Rattle.list_facts.specs.Places.{IsAt, IsGapFor}
use Rattle.list_facts.proofs.Orders.{less_flipped}

-- a list whose keys rise from each element to the next can be searched by halving
pub searchable : {K : Type 0} {R : K → K → Ordering} → IsTotalOrder R → {X : Type 0} (key : X → K) (xs : List X) (sought : K)
    → ((k : ℕ) (d : X) → k + 1 < length xs → R (key (get_or xs k d)) (key (get_or xs (k + 1) d)) ≡ Less)
    → IsNonDecreasingBy (λ (x : X). ordering_index (R (key x) sought)) xs
searchable total key xs sought rises =
    searchable_from_sorted total key xs sought (λ k d low lt. ap is_lt (less_flipped total (key (get_or xs k d)) (key (get_or xs (k + 1) d)) (rises k d lt)))

module _ {X : Type 0} where
  -- a fact of each place below i is one of each of the first i, and likewise of the rest
  pub front : (P : X → Type 0) (xs : List X) (i : ℕ) → i ≤ length xs → AllWithin P xs 0 i → AllByRecursion P (take i xs)
  front P [] zero le h = tt
  front P [] (suc i) le h = absurd (omega arith)
  front P (x ∷ xs) zero le h = tt
  front P (x ∷ xs) (suc i) le h = (h 0 x (omega arith) (omega arith), front P xs i (omega arith) (λ k d low lt. h (suc k) d (omega arith) (omega arith)))

  whole : (P : X → Type 0) (xs : List X) → AllWithin P xs 0 (length xs) → AllByRecursion P xs
  whole P [] h = tt
  whole P (x ∷ xs) h = (h 0 x (omega arith) (omega arith), whole P xs (λ k d low lt. h (suc k) d (omega arith) (omega arith)))

  pub back : (P : X → Type 0) (xs : List X) (i : ℕ) → AllWithin P xs i (length xs) → AllByRecursion P (drop i xs)
  back P [] zero h = tt
  back P [] (suc i) h = tt
  back P (x ∷ xs) zero h = whole P (x ∷ xs) h
  back P (x ∷ xs) (suc i) h = back P xs i (λ k d low lt. h (suc k) d (omega arith) (omega arith))

  -- the list in parts: what is before a place, what stands there, and what is after it
  pub split_at : (xs : List X) (i : ℕ) (d : X) → i < length xs → xs ≡ take i xs ++ get_or xs i d ∷ drop (i + 1) xs
  split_at [] i d lt = absurd (omega arith)
  split_at (x ∷ xs) zero d lt = cc
  split_at (x ∷ xs) (suc i) d lt = let e : suc i + 1 ≡ suc (i + 1) = omega arith in rw e (ap (λ r. x ∷ r) (split_at xs i d (omega arith)))

  pub set-parts : (xs : List X) (i : ℕ) (x : X) → i < length xs → set xs i x ≡ take i xs ++ x ∷ drop (i + 1) xs
  set-parts [] i x lt = absurd (omega arith)
  set-parts (y ∷ ys) zero x lt = cc
  set-parts (y ∷ ys) (suc i) x lt = let e : suc i + 1 ≡ suc (i + 1) = omega arith in rw e (ap (λ r. y ∷ r) (set-parts ys i x (omega arith)))

  -- the two answers of the halving search
  pub found : (order : X → Ordering) (xs : List X) (r : Result ℕ ℕ) → IsSearchInRange r (length xs) → IsBinarySearchResult order xs r → IfOk r (IsAt order xs)
  found order xs (Err i) bound is = tt
  found order [] (Ok i) bound is = absurd (omega arith)
  found order (x ∷ xs) (Ok i) bound is = record {
    in_range = bound;
    item = get_or (x ∷ xs) i x;
    here = λ d. get_or_default (x ∷ xs) i d x bound;
    tie = is x;
    split = split_at (x ∷ xs) i x bound;
  }

  pub absent : (order : X → Ordering) (xs : List X) (r : Result ℕ ℕ) → IsNonDecreasingBy (λ x. ordering_index (order x)) xs → IsSearchInRange r (length xs) → IsBinarySearchResult order xs r → IfErr r (IsGapFor order xs)
  absent order xs (Ok i) up bound is = tt
  absent order xs (Err i) up bound is = let parted = is up in record {
    in_range = bound;
    before = front (λ x. order x ≡ Less) xs i bound parted.0;
    after = back (λ x. order x ≡ Greater) xs i parted.1;
  }
