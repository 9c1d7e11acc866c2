-- Heads stand as their texts do where they differ, and those of short texts tell them.
use Rattle.std.proofs.Common.{◌≡◌, refl, sym, ◌∙◌, ap, subst, ℕ, zero, suc, ◌+◌, ◌*◌, ◌%◌, ◌<◌, ◌≤◌, List, [], ◌∷◌, length, drop, true, arith, inl, inr, ◌⊎◌}
use Rattle.std.specs.Prelude.{slice_index}
use Rattle.std.specs.Str.{bytes_eq}
use Rattle.std.proofs.lemmas.Slice.Eq.{bytes_eq-Decides}
use Rattle.std.proofs.lemmas.Bool.{cases_lt}
use Rattle.std.proofs.lemmas.Bool.Decides.{nat_tests}
use Rattle.std.proofs.lemmas.Cmp.{nat_list_cmp_total, tied_itself}
use Rattle.std.specs.Ordering.{nat_cmp, ordering_reverse, ordering_then}
use Rattle.std.specs.declared.cmp.Ordering.{Ordering}
use Rattle.std.specs.declared.cmp.Ordering.TheVariants.{Less, Equal, Greater}
use Rattle.std.specs.Cmp.Lexicographic.{slice_cmp}
use Rattle.stacks_vars.specs.Head.{front, last_digit, IsHead}

abbrev Bytes : List ℕ → Type 0
Bytes text = (place : ℕ) → slice_index text place < 256

-- the first n bytes are the same
abbrev Alike : ℕ → List ℕ → List ℕ → Type 0
Alike n xs ys = (place : ℕ) → place < n → slice_index xs place ≡ slice_index ys place

later : (n : ℕ) (x y : ℕ) (xs ys : List ℕ) → Alike (suc n) (x ∷ xs) (y ∷ ys) → Alike n xs ys
later n x y xs ys same place low = same (suc place) (omega (arith, low))

-- a lesser number of as many digits: lesser before the last digit, or the same there and the last one lesser
lesser : (p q x y : ℕ) → x < 256 → y < 256 → p * 256 + x < q * 256 + y → (p < q) ⊎ ((p ≡ q) × (x < y))
lesser p q x y low high less = by (cases_lt p q)
  where
    by : (p < q) ⊎ (q ≤ p) → (p < q) ⊎ ((p ≡ q) × (x < y))
    by (inl before) = inl before
    by (inr behind) = inr (omega (arith, behind, less, low, high), omega (arith, behind, less, low, high))

-- the same number: the same before the last digit, and the same last one
same_digits : (p q x y : ℕ) → x < 256 → y < 256 → p * 256 + x ≡ q * 256 + y → (p ≡ q) × (x ≡ y)
same_digits p q x y low high same = (omega (arith, low, high, same), omega (arith, low, high, same))

fronts_alike : (n : ℕ) (xs ys : List ℕ) → Bytes xs → Bytes ys → front n xs ≡ front n ys → Alike n xs ys
fronts_alike zero xs ys a b same place low = absurd (omega (arith, low))
fronts_alike (suc n) xs ys a b same place low =
    let digits = same_digits (front n xs) (front n ys) (slice_index xs n) (slice_index ys n) (a n) (b n) same in
    elim (cases_lt place n) [
      | inl before ↦ fronts_alike n xs ys a b digits.0 place before
      | inr there ↦
          let is : place ≡ n = omega (arith, there, low) in
          ap (slice_index xs) is ∙ digits.1 ∙ sym (ap (slice_index ys) is)
    ]

nat_less : (x y : ℕ) → x < y → nat_cmp x y ≡ Less
nat_less x y less = grind (arith, nat_tests)

nat_same : (x y : ℕ) → x ≡ y → nat_cmp x y ≡ Equal
nat_same x y same = grind (arith, nat_tests)

-- the first byte that differs decides
first_differs : (n : ℕ) (xs ys : List ℕ) → Alike n xs ys → slice_index xs n < slice_index ys n → slice_cmp nat_cmp xs ys ≡ Less
first_differs n [] [] same less = absurd (omega (arith, less))
first_differs n [] (y ∷ ys) same less = refl
first_differs n (x ∷ xs) [] same less = absurd (omega (arith, less))
first_differs zero (x ∷ xs) (y ∷ ys) same less = ap (λ o. ordering_then o (slice_cmp nat_cmp xs ys)) (nat_less x y less)
first_differs (suc n) (x ∷ xs) (y ∷ ys) same less =
    ap (λ o. ordering_then o (slice_cmp nat_cmp xs ys)) (nat_same x y (same zero (omega arith)))
    ∙ first_differs n xs ys (later n x y xs ys same) less

-- a text that ends first stands before
ends_first : (n : ℕ) (xs ys : List ℕ) → Alike n xs ys → length xs ≤ n → length xs < length ys → slice_cmp nat_cmp xs ys ≡ Less
ends_first n [] [] same short less = absurd (omega (arith, less))
ends_first n [] (y ∷ ys) same short less = refl
ends_first n (x ∷ xs) [] same short less = absurd (omega (arith, less))
ends_first zero (x ∷ xs) (y ∷ ys) same short less = absurd (omega (arith, short))
ends_first (suc n) (x ∷ xs) (y ∷ ys) same short less =
    ap (λ o. ordering_then o (slice_cmp nat_cmp xs ys)) (nat_same x y (same zero (omega arith)))
    ∙ ends_first n xs ys (later n x y xs ys same) (omega (arith, short)) (omega (arith, less))

-- texts of at most n bytes, equal in length and in the first n, are the same
all_alike : (n : ℕ) (xs ys : List ℕ) → Alike n xs ys → length xs ≤ n → length xs ≡ length ys → xs ≡ ys
all_alike n [] [] same short long = refl
all_alike n [] (y ∷ ys) same short long = absurd (omega (arith, long))
all_alike n (x ∷ xs) [] same short long = absurd (omega (arith, long))
all_alike zero (x ∷ xs) (y ∷ ys) same short long = absurd (omega (arith, short))
all_alike (suc n) (x ∷ xs) (y ∷ ys) same short long =
    λ i. same zero (omega arith) i ∷ all_alike n xs ys (later n x y xs ys same) (omega (arith, short)) (omega (arith, long)) i

front_less : (n : ℕ) (xs ys : List ℕ) → Bytes xs → Bytes ys → front n xs < front n ys → slice_cmp nat_cmp xs ys ≡ Less
front_less zero xs ys a b less = absurd (omega (arith, less))
front_less (suc n) xs ys a b less = elim (lesser (front n xs) (front n ys) (slice_index xs n) (slice_index ys n) (a n) (b n) less) [
  | inl before ↦ front_less n xs ys a b before
  | inr here ↦ first_differs n xs ys (fronts_alike n xs ys a b here.0) here.1
]

-- the text of a lesser head stands before that of a greater one
pub head_less : (p q : ℕ) (xs ys : List ℕ) → IsHead p xs → IsHead q ys → p < q → slice_cmp nat_cmp xs ys ≡ Less
head_less p q xs ys a b less = by (front 7 xs) (front 7 ys) refl refl
  where
    by : (m n : ℕ) → front 7 xs ≡ m → front 7 ys ≡ n → slice_cmp nat_cmp xs ys ≡ Less
    by m n is_m is_n =
        let left : p ≡ m * 256 + last_digit xs = a.value ∙ ap (λ k. k * 256 + last_digit xs) is_m in
        let right : q ≡ n * 256 + last_digit ys = b.value ∙ ap (λ k. k * 256 + last_digit ys) is_n in
        elim (lesser m n (last_digit xs) (last_digit ys) (omega arith) (omega arith) (omega (arith, left, right, less))) [
          | inl before ↦ front_less 7 xs ys a.bytes b.bytes (omega (arith, before, is_m, is_n))
          | inr here ↦ ends_first 7 xs ys (fronts_alike 7 xs ys a.bytes b.bytes (is_m ∙ here.0 ∙ sym is_n)) (omega (arith, here.1)) (omega (arith, here.1))
        ]

-- and the other way round
pub head_greater : (p q : ℕ) (xs ys : List ℕ) → IsHead p xs → IsHead q ys → q < p → slice_cmp nat_cmp xs ys ≡ Greater
head_greater p q xs ys a b less = nat_list_cmp_total.antisymm xs ys ∙ ap ordering_reverse (head_less q p ys xs b a less)

-- texts of at most seven bytes with one head are the same
pub whole_same : (p : ℕ) (xs ys : List ℕ) → IsHead p xs → IsHead p ys → p % 256 ≤ 8 → xs ≡ ys
whole_same p xs ys a b whole = by (front 7 xs) (front 7 ys) refl refl
  where
    by : (m n : ℕ) → front 7 xs ≡ m → front 7 ys ≡ n → xs ≡ ys
    by m n is_m is_n =
        let left : p ≡ m * 256 + last_digit xs = a.value ∙ ap (λ k. k * 256 + last_digit xs) is_m in
        let right : p ≡ n * 256 + last_digit ys = b.value ∙ ap (λ k. k * 256 + last_digit ys) is_n in
        let fronts : m ≡ n = omega (arith, left, right) in
        all_alike 7 xs ys (fronts_alike 7 xs ys a.bytes b.bytes (is_m ∙ fronts ∙ sym is_n)) (omega (arith, left, right, whole)) (omega (arith, left, right, whole))

same_stands : (xs ys : List ℕ) → xs ≡ ys → slice_cmp nat_cmp xs ys ≡ Equal
same_stands xs ys same = ap (slice_cmp nat_cmp xs) (sym same) ∙ tied_itself nat_list_cmp_total xs

nat_greater : (x y : ℕ) → y < x → nat_cmp x y ≡ Greater
nat_greater x y more = grind (arith, nat_tests)

-- texts stand as their heads do where these differ
pub heads_told : (p q : ℕ) (xs ys : List ℕ) (o : Ordering) → IsHead p xs → IsHead q ys → (p ≡ q → ⊥) → o ≡ nat_cmp p q → o ≡ slice_cmp nat_cmp xs ys
heads_told p q xs ys o a b other is = elim (cases_lt p q) [
  | inl less ↦ is ∙ nat_less p q less ∙ sym (head_less p q xs ys a b less)
  | inr not_less ↦ elim (cases_lt q p) [
    | inl more ↦ is ∙ nat_greater p q more ∙ sym (head_greater p q xs ys a b more)
    | inr not_more ↦ absurd (other (omega (arith, not_less, not_more)))
  ]
]

-- and texts of at most seven bytes are the same where they don't
pub whole_told : (p q : ℕ) (xs ys : List ℕ) → IsHead p xs → IsHead q ys → p ≡ q → p % 256 ≤ 8 → xs ≡ ys
whole_told p q xs ys a b same whole = whole_same p xs ys a (subst (λ n. IsHead n ys) (sym same) b) whole

pub whole_stands : (p q : ℕ) (xs ys : List ℕ) → IsHead p xs → IsHead q ys → p ≡ q → p % 256 ≤ 8 → Equal ≡ slice_cmp nat_cmp xs ys
whole_stands p q xs ys a b same whole = sym (same_stands xs ys (whole_told p q xs ys a b same whole))

pub whole_equal : (p q : ℕ) (xs ys : List ℕ) → IsHead p xs → IsHead q ys → p ≡ q → p % 256 ≤ 8 → bytes_eq xs ys ≡ true
whole_equal p q xs ys a b same whole = (bytes_eq-Decides xs ys).1 (whole_told p q xs ys a b same whole)

-- bytes that are the same decide nothing
past_alike : (n : ℕ) (xs ys : List ℕ) → Alike n xs ys → n ≤ length xs → n ≤ length ys → slice_cmp nat_cmp xs ys ≡ slice_cmp nat_cmp (drop n xs) (drop n ys)
past_alike zero xs ys same a b = refl
past_alike (suc n) [] ys same a b = absurd (omega (arith, a))
past_alike (suc n) (x ∷ xs) [] same a b = absurd (omega (arith, b))
past_alike (suc n) (x ∷ xs) (y ∷ ys) same a b =
    ap (λ o. ordering_then o (slice_cmp nat_cmp xs ys)) (nat_same x y (same zero (omega arith)))
    ∙ past_alike n xs ys (later n x y xs ys same) (omega (arith, a)) (omega (arith, b))

-- texts of more than seven bytes with one head: so many, and the bytes behind the first seven decide
pub record AreLong (xs ys : List ℕ) : Type 0 where
  pub first : 7 ≤ length xs
  pub second : 7 ≤ length ys
  pub alike : slice_cmp nat_cmp xs ys ≡ slice_cmp nat_cmp (drop 7 xs) (drop 7 ys)

pub long_alike : (p q : ℕ) (xs ys : List ℕ) → IsHead p xs → IsHead q ys → p ≡ q → (p % 256 ≤ 8 → ⊥) → AreLong xs ys
long_alike p q xs ys a b same long = by (front 7 xs) (front 7 ys) refl refl
  where
    by : (m n : ℕ) → front 7 xs ≡ m → front 7 ys ≡ n → AreLong xs ys
    by m n is_m is_n =
        let left : p ≡ m * 256 + last_digit xs = a.value ∙ ap (λ k. k * 256 + last_digit xs) is_m in
        let right : q ≡ n * 256 + last_digit ys = b.value ∙ ap (λ k. k * 256 + last_digit ys) is_n in
        let fronts : m ≡ n = omega (arith, left, right, same) in
        let one : 7 ≤ length xs = omega (arith, left, long) in
        let other : 7 ≤ length ys = omega (arith, right, same, long) in
        record {
          first = one;
          second = other;
          alike = past_alike 7 xs ys (fronts_alike 7 xs ys a.bytes b.bytes (is_m ∙ fronts ∙ sym is_n)) one other;
        }
