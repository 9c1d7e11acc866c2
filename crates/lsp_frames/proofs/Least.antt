-- The least number that passes a test, and the block of header lines of an input that goes on.
use Rattle.std.proofs.Common.{◌≡◌, ℕ, zero, suc, ◌+◌, ◌<◌, ◌≤◌, ◌⊎◌, inl, inr, min, Bool, true, false, List, ◌++◌, length, take, Option, None, Some, if◌then◌else◌, refl, sym, ap, ◌∙◌, arith, subst, length-append, length-take}
use Rattle.std.proofs.lemmas.Bool.{cases_lt, false≢true}
use Rattle.std.proofs.lemmas.List.{take-append-le, take-take}
use Rattle.std.proofs.lemmas.Option.{none-some, same_Some}
use Rattle.std.specs.Option.{option_or}
use Rattle.lsp_frames.specs.Blocks.{block_max, ends_block, least, block_len}

-- tests that agree have the same least number
pub least-agree : (t u : ℕ → Bool) (n : ℕ) → ((k : ℕ) → k < n → t k ≡ u k) → least t n ≡ least u n
least-agree t u zero h = refl
least-agree t u (suc n) h =
    λ i. option_or (least-agree t u n (λ k below. h k (omega (arith, below))) i) (if h n (omega arith) i then Some n else None)

-- one more number
pub least_cases : (t : ℕ → Bool) (n k : ℕ) → least t (suc n) ≡ Some k → (least t n ≡ Some k) ⊎ ((k ≡ n) × (t n ≡ true))
least_cases t n k e = by (least t n) (t n) refl refl e
  where
    by : (o : Option ℕ) (b : Bool) → least t n ≡ o → t n ≡ b → option_or o (if b then Some n else None) ≡ Some k → (least t n ≡ Some k) ⊎ ((k ≡ n) × (t n ≡ true))
    by None true o b e = inr (sym (same_Some n k e), b)
    by None false o b e = absurd (none-some k e)
    by (Some j) b o was e = inl (o ∙ e)

pub least-below : (t : ℕ → Bool) (n k : ℕ) → least t n ≡ Some k → k < n
least-below t zero k e = absurd (none-some k e)
least-below t (suc n) k e = by (least-below t n k) (least_cases t n k e)
  where
    by : (least t n ≡ Some k → k < n) → (least t n ≡ Some k) ⊎ ((k ≡ n) × (t n ≡ true)) → k < suc n
    by below (inl before) = omega (arith, below before)
    by below (inr here) = omega (arith, here.0)

pub least-passes : (t : ℕ → Bool) (n k : ℕ) → least t n ≡ Some k → t k ≡ true
least-passes t zero k e = absurd (none-some k e)
least-passes t (suc n) k e = by (least-passes t n k) (least_cases t n k e)
  where
    by : (least t n ≡ Some k → t k ≡ true) → (least t n ≡ Some k) ⊎ ((k ≡ n) × (t n ≡ true)) → t k ≡ true
    by passes (inl before) = passes before
    by passes (inr here) = subst (λ j. t j ≡ true) (sym here.0) here.1

-- further numbers change nothing
pub least-more : (t : ℕ → Bool) (n m k : ℕ) → n ≤ m → least t n ≡ Some k → least t m ≡ Some k
least-more t n zero k h e = let z : n ≡ 0 = omega (arith, h) in absurd (none-some k (ap (least t) (sym z) ∙ e))
least-more t n (suc m) k h e = by (λ within. least-more t n m k within e) (cases_lt m n)
  where
    by : (n ≤ m → least t m ≡ Some k) → (m < n) ⊎ (n ≤ m) → least t (suc m) ≡ Some k
    by more (inl over) = let same : suc m ≡ n = omega (arith, over, h) in ap (least t) same ∙ e
    by more (inr within) = ap (λ o. option_or o (if t m then Some m else None)) (more within)

least-fails : (t : ℕ → Bool) (n k : ℕ) → least t n ≡ None → k < n → t k ≡ false
least-fails t zero k e h = absurd (omega (arith, h))
least-fails t (suc n) k e h = by (least-fails t n k) (least t n) (t n) refl refl e (cases_lt k n)
  where
    by : (least t n ≡ None → k < n → t k ≡ false) → (o : Option ℕ) (b : Bool) → least t n ≡ o → t n ≡ b
        → option_or o (if b then Some n else None) ≡ None → (k < n) ⊎ (n ≤ k) → t k ≡ false
    by fails None true o b e c = absurd (none-some n (sym e))
    by fails None false o b e (inl below) = fails o below
    by fails None false o b e (inr over) = let same : k ≡ n = omega (arith, over, h) in ap t same ∙ b
    by fails (Some j) b o was e c = absurd (none-some j (sym e))

-- the first number that passes
pub least-found : (t : ℕ → Bool) (n m : ℕ) → least t n ≡ None → t n ≡ true → n < m → least t m ≡ Some n
least-found t n m none passes h =
    least-more t (suc n) m n (omega (arith, h)) ((λ i. option_or (none i) (if passes i then Some n else None)))

-- nor do fewer above it
pub least-fewer : (t : ℕ → Bool) (n m k : ℕ) → m ≤ n → k < m → least t n ≡ Some k → least t m ≡ Some k
least-fewer t n m k h below e = by (least t m) refl
  where
    by : (o : Option ℕ) → least t m ≡ o → least t m ≡ Some k
    by None o = absurd (false≢true (sym (least-fails t m k o below) ∙ least-passes t n k e))
    by (Some j) o = o ∙ sym (least-more t m n j h o) ∙ e

-- the block stays where the input goes on
pub block_len-more : (xs ys : List ℕ) (k : ℕ) → block_len xs ≡ Some k → block_len (xs ++ ys) ≡ Some k
block_len-more xs ys k e =
    least-more (λ n. ends_block (take n (xs ++ ys))) (min (length xs) block_max + 1) (min (length (xs ++ ys)) block_max + 1) k (omega (arith, length-append xs ys))
    (sym (least-agree (λ n. ends_block (take n xs)) (λ n. ends_block (take n (xs ++ ys))) (min (length xs) block_max + 1)
    (λ j below. ap ends_block (sym (take-append-le j xs ys (omega (arith, below)))))) ∙ e)

-- nor is there one where none ends within the most bytes
pub block_len-none : (xs ys : List ℕ) → block_max ≤ length xs → block_len xs ≡ None → block_len (xs ++ ys) ≡ None
block_len-none xs ys h e =
    let few : min (length xs) block_max + 1 ≡ block_max + 1 = omega (arith, h) in
    let all : min (length (xs ++ ys)) block_max + 1 ≡ block_max + 1 = omega (arith, h, length-append xs ys) in
    ap (least (λ n. ends_block (take n (xs ++ ys)))) all
    ∙ sym (least-agree (λ n. ends_block (take n xs)) (λ n. ends_block (take n (xs ++ ys))) (block_max + 1)
    (λ j below. ap ends_block (sym (take-append-le j xs ys (omega (arith, below, h))))))
    ∙ ap (least (λ n. ends_block (take n xs))) (sym few) ∙ e

pub block_len-within : (xs : List ℕ) (k : ℕ) → block_len xs ≡ Some k → (k ≤ length xs) × (k ≤ block_max)
block_len-within xs k e =
    let below = least-below (λ n. ends_block (take n xs)) (min (length xs) block_max + 1) k e in
    (omega (arith, below), omega (arith, below))

-- the block of a front of the input that has it
pub block_len-front : (xs : List ℕ) (k m : ℕ) → block_len xs ≡ Some k → k ≤ m → m ≤ length xs → block_len (take m xs) ≡ Some k
block_len-front xs k m e h within =
    let size : length (take m xs) ≡ m = omega (arith, length-take m xs, within) in
    let bound = block_len-within xs k e in
    let n : min (length (take m xs)) block_max + 1 ≡ min m block_max + 1 = omega (arith, size) in
    ap (least (λ j. ends_block (take j (take m xs)))) n
    ∙ sym (least-agree (λ j. ends_block (take j xs)) (λ j. ends_block (take j (take m xs))) (min m block_max + 1)
    (λ j below. ap ends_block (sym (take-take j m xs (omega (arith, below))))))
    ∙ least-fewer (λ j. ends_block (take j xs)) (min (length xs) block_max + 1) (min m block_max + 1) k (omega (arith, within)) (omega (arith, h, bound.1)) e

-- as a loop finds it
pub block_len-found : (xs : List ℕ) (n : ℕ) → least (λ k. ends_block (take k xs)) n ≡ None → ends_block (take n xs) ≡ true → n < min (length xs) block_max + 1
    → Some n ≡ block_len xs
block_len-found xs n none ends h = sym (least-found (λ k. ends_block (take k xs)) n (min (length xs) block_max + 1) none ends h)
