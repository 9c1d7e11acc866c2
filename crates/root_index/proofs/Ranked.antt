-- Elements in order by their ranks: one put in behind those that aren't higher, and one taken out.
use Rattle.std.proofs.Common.{◌≡◌, refl, sym, ◌∙◌, ap, ℕ, zero, suc, ◌+◌, ◌-◌, ◌<◌, ◌≤◌, List, [], ◌∷◌, length, get_or, Bool, true, false, cond, not, arith, inl, inr}
use Rattle.std.specs.List.{AllByRecursion, filter, prefix_len, insert, remove}
use Rattle.std.specs.List.Sorted.{IsSortedBy}
use Rattle.std.specs.Cmp.{IsTotalOrder}
use Rattle.std.specs.Ordering.{is_lt, is_le, is_eq, ordering_reverse}
use Rattle.std.specs.declared.cmp.Ordering.{Ordering}
use Rattle.std.specs.declared.cmp.Ordering.TheVariants.{Less, Equal, Greater}
use Rattle.std.proofs.lemmas.Bool.{false≢true, cases_lt}
use Rattle.std.proofs.lemmas.List.Edits.{length-insert, get_or-insert_below, get_or-insert_at, get_or-insert_above}

-- an element put in between what isn't above it and what isn't below it
pub insert_sorted : {X : Type 0} (lt : X → X → Bool) (xs : List X) (n : ℕ) (y : X) → n ≤ length xs → IsSortedBy lt xs
    → ((k : ℕ) (d : X) → k + 1 ≡ n → lt y (get_or xs k d) ≡ false) → ((d : X) → n < length xs → lt (get_or xs n d) y ≡ false)
    → IsSortedBy lt (insert xs n y)
insert_sorted lt xs n y inside sorted low high k d from h =
    let long : length (insert xs n y) ≡ length xs + 1 = length-insert xs n y inside in
    elim (cases_lt (k + 1) n) [
      | inl a ↦
          (λ i. lt (get_or-insert_below xs n y d (k + 1) a inside i) (get_or-insert_below xs n y d k (omega (arith, a)) inside i))
          ∙ sorted k d (omega arith) (omega (arith, a, inside))
      | inr b ↦ elim (cases_lt k n) [
        | inl a ↦
            let e : k + 1 ≡ n = omega (arith, a, b) in
            ap (λ m. lt (get_or (insert xs n y) m d) (get_or (insert xs n y) k d)) e
            ∙ (λ i. lt (get_or-insert_at xs n y d inside i) (get_or-insert_below xs n y d k a inside i)) ∙ low k d e
        | inr a ↦ elim (cases_lt n k) [
          | inl less ↦
              let e : k ≡ (k - 1) + 1 = omega (arith, less) in
              ap (λ v. lt v (get_or (insert xs n y) k d)) (get_or-insert_above xs n y d k a inside)
              ∙ (λ i. lt (get_or xs (e i) d) (get_or (insert xs n y) (e i) d))
              ∙ ap (lt (get_or xs ((k - 1) + 1) d)) (get_or-insert_above xs n y d (k - 1) (omega (arith, less)) inside)
              ∙ sorted (k - 1) d (omega arith) (omega (arith, h, long, less))
          | inr same ↦
              let e : k ≡ n = omega (arith, a, same) in
              ap (λ v. lt v (get_or (insert xs n y) k d)) (get_or-insert_above xs n y d k a inside)
              ∙ (λ i. lt (get_or xs (e i) d) (get_or (insert xs n y) (e i) d))
              ∙ ap (lt (get_or xs n d)) (get_or-insert_at xs n y d inside) ∙ high d (omega (arith, h, long, e))
        ]
      ]
    ]

module _ {X K : Type 0} (R : K → K → Ordering) (o : IsTotalOrder R) (key : X → K) where
  -- not above it, and neither above nor below it
  abbrev pub up_to : X → X → Bool
  up_to p q = is_le (R (key q) (key p))

  abbrev pub tied : X → X → Bool
  tied p q = is_eq (R (key q) (key p))

  -- each before all that follow
  abbrev pub IsStrict : List X → Type 0
  IsStrict [] = Unit {0}
  IsStrict (p ∷ ps) = AllByRecursion (λ (q : X). R (key p) (key q) ≡ Less) ps × IsStrict ps

  behind : (x q p : X) → R (key x) (key q) ≡ Less → is_lt (R (key x) (key p)) ≡ false → is_le (R (key q) (key p)) ≡ false
  behind x q p less not_low = by (R (key q) (key p)) refl
    where
      by : (r : Ordering) → R (key q) (key p) ≡ r → is_le (R (key q) (key p)) ≡ false
      by Less e = absurd (false≢true (sym not_low ∙ ap is_lt (o.trans (key x) (key q) (key p) less e)))
      by Equal e = absurd (false≢true (sym not_low ∙ ap is_lt
          (o.antisymm (key x) (key p) ∙ ap ordering_reverse (sym (o.congr (key q) (key p) (key x) e)) ∙ sym (o.antisymm (key x) (key q)) ∙ less)))
      by Greater e = ap is_le e

  none_up : (x p : X) (xs : List X) → AllByRecursion (λ (q : X). R (key x) (key q) ≡ Less) xs → is_lt (R (key x) (key p)) ≡ false → prefix_len (up_to p) xs ≡ 0
  none_up x p [] all h = refl
  none_up x p (q ∷ xs) all h = ap (λ b. cond b (1 + prefix_len (up_to p) xs) 0) (behind x q p all.0 h)

  -- without the last of the first n, where that is tied
  abbrev pub out_at : X → ℕ → List X → List X
  out_at p zero xs = xs
  out_at p (suc k) xs = cond (tied p (get_or xs k p)) (remove xs k) xs

  pull : (p x : X) (xs : List X) (n : ℕ) → R (key x) (key p) ≡ Less → x ∷ out_at p n xs ≡ out_at p (suc n) (x ∷ xs)
  pull p x xs zero e = sym (ap (λ r. cond (is_eq r) (remove (x ∷ xs) 0) (x ∷ xs)) e)
  pull p x xs (suc k) e = by (tied p (get_or xs k p))
    where
      by : (b : Bool) → x ∷ cond b (remove xs k) xs ≡ cond b (remove (x ∷ xs) (suc k)) (x ∷ xs)
      by true = refl
      by false = refl

  -- those that aren't tied with it
  pub taken_out : (p : X) (xs : List X) → IsStrict xs → filter (λ (q : X). not (tied p q)) xs ≡ out_at p (prefix_len (up_to p) xs) xs
  taken_out p [] strict = refl
  taken_out p (x ∷ xs) strict = by (R (key x) (key p)) refl (taken_out p xs strict.1)
    where
      more : 1 + prefix_len (up_to p) xs ≡ suc (prefix_len (up_to p) xs)
      more = omega arith

      rest_of : Ordering → List X
      rest_of r = cond (not (is_eq r)) (x ∷ filter (λ (q : X). not (tied p q)) xs) (filter (λ (q : X). not (tied p q)) xs)

      end_of : Ordering → List X
      end_of r = out_at p (cond (is_le r) (1 + prefix_len (up_to p) xs) 0) (x ∷ xs)

      by : (r : Ordering) → R (key x) (key p) ≡ r → filter (λ (q : X). not (tied p q)) xs ≡ out_at p (prefix_len (up_to p) xs) xs → rest_of (R (key x) (key p)) ≡ end_of (R (key x) (key p))
      by Less e rest =
          ap rest_of e ∙ ap (λ ys. x ∷ ys) rest ∙ pull p x xs (prefix_len (up_to p) xs) e ∙ sym (ap (λ n. out_at p n (x ∷ xs)) more) ∙ sym (ap end_of e)
      by Equal e rest =
          let none : prefix_len (up_to p) xs ≡ 0 = none_up x p xs strict.0 (ap is_lt e) in
          ap rest_of e ∙ rest ∙ ap (λ n. out_at p n xs) none
          ∙ sym (ap (λ r. cond (is_eq r) (remove (x ∷ xs) 0) (x ∷ xs)) e)
          ∙ sym (ap (λ n. out_at p (suc n) (x ∷ xs)) none) ∙ sym (ap (λ n. out_at p n (x ∷ xs)) more) ∙ sym (ap end_of e)
      by Greater e rest =
          let none : prefix_len (up_to p) xs ≡ 0 = none_up x p xs strict.0 (ap is_lt e) in
          ap rest_of e ∙ ap (λ ys. x ∷ ys) (rest ∙ ap (λ n. out_at p n xs) none) ∙ sym (ap end_of e)
