-- Where the first element fails a test that holds first, looked for by halving.
use Rattle.std.proofs.Common.{◌≡◌, zero, sym, ◌∙◌, ap, ℕ, suc, ◌+◌, ◌-◌, ◌<◌, ◌≤◌, List, [], ◌∷◌, length, take, drop, get_or, Bool, true, false, cond, arith}
use Rattle.std.proofs.lemmas.List.{take_rest}
use Rattle.std.specs.List.{prefix_len}
use Rattle.std.specs.List.Sorted.{IsPartitionedBy}

-- one that passes stands before there
before_there : {X : Type 0} (p : X → Bool) (xs : List X) (k : ℕ) (d : X) → IsPartitionedBy p xs → k < length xs → p (get_or xs k d) ≡ true → k < prefix_len p xs
before_there p [] k d parted h e = absurd (omega (arith, h))
before_there p (x ∷ xs) zero d parted h e =
    let first : prefix_len p (x ∷ xs) ≡ 1 + prefix_len p xs = ap (λ b. cond b (1 + prefix_len p xs) 0) e in omega (arith, first)
before_there p (x ∷ xs) (suc k) d parted h e =
    let passed : p x ≡ true = parted zero (suc k) d (omega arith) (omega (arith, h)) e in
    let first : prefix_len p (x ∷ xs) ≡ 1 + prefix_len p xs = ap (λ b. cond b (1 + prefix_len p xs) 0) passed in
    let rest : k < prefix_len p xs = before_there p xs k d (λ i j d le h. parted (suc i) (suc j) d (omega arith) (omega arith)) (omega (arith, h)) e in
    omega (arith, first, rest)

cond_up : (b : Bool) (n : ℕ) → cond b (1 + n) 0 ≤ 1 + n
cond_up true n = omega arith
cond_up false n = omega arith

-- one that fails stands there or behind
there_or_behind : {X : Type 0} (p : X → Bool) (xs : List X) (k : ℕ) (d : X) → k < length xs → p (get_or xs k d) ≡ false → prefix_len p xs ≤ k
there_or_behind p [] k d h e = absurd (omega (arith, h))
there_or_behind p (x ∷ xs) zero d h e =
    let first : prefix_len p (x ∷ xs) ≡ 0 = ap (λ b. cond b (1 + prefix_len p xs) 0) e in omega (arith, first)
there_or_behind p (x ∷ xs) (suc k) d h e =
    let up : prefix_len p (x ∷ xs) ≤ 1 + prefix_len p xs = cond_up (p x) (prefix_len p xs) in
    let rest : prefix_len p xs ≤ k = there_or_behind p xs k d (omega (arith, h)) e in
    omega (arith, up, rest)

within_all : {X : Type 0} (p : X → Bool) (xs : List X) → prefix_len p xs ≤ length xs
within_all p [] = omega arith
within_all p (x ∷ xs) =
    let up : prefix_len p (x ∷ xs) ≤ 1 + prefix_len p xs = cond_up (p x) (prefix_len p xs) in
    let rest : prefix_len p xs ≤ length xs = within_all p xs in
    omega (arith, up, rest)

-- it stands between those two places
pub record IsBetween {X : Type 0} (p : X → Bool) (xs : List X) (low high : ℕ) : Type 0 where
  pub passed : low ≤ prefix_len p xs
  pub failed : prefix_len p xs ≤ high
  pub within : high ≤ length xs

pub between_all : {X : Type 0} (p : X → Bool) (xs : List X) (n : ℕ) → n ≡ length xs → IsBetween p xs 0 n
between_all p xs n e = let all : prefix_len p xs ≤ length xs = within_all p xs in record {
  passed = omega arith;
  failed = omega (arith, all, e);
  within = omega (arith, e);
}

pub between_up : {X : Type 0} (p : X → Bool) (xs : List X) (low high middle : ℕ) (x : X) → IsPartitionedBy p xs → IsBetween p xs low high → middle < high
    → x ≡ get_or xs middle x → p x ≡ true → IsBetween p xs (middle + 1) high
between_up p xs low high middle x parted h below is e =
    let inside : middle < length xs = omega (arith, below, h.within) in
    let more : middle < prefix_len p xs = before_there p xs middle x parted inside (ap p (sym is) ∙ e) in
    record { passed = omega (arith, more); failed = h.failed; within = h.within }

pub between_down : {X : Type 0} (p : X → Bool) (xs : List X) (low high middle : ℕ) (x : X) → IsBetween p xs low high → middle < high
    → x ≡ get_or xs middle x → p x ≡ false → IsBetween p xs low middle
between_down p xs low high middle x h below is e =
    let inside : middle < length xs = omega (arith, below, h.within) in
    record { passed = h.passed; failed = there_or_behind p xs middle x inside (ap p (sym is) ∙ e); within = omega (arith, inside) }

pub between_end : {X : Type 0} (p : X → Bool) (xs : List X) (low high : ℕ) → IsBetween p xs low high → high ≤ low → low ≡ prefix_len p xs
between_end p xs low high h over = omega (arith, h.passed, h.failed, over)

-- The elements that pass one test come first, and those that pass another right behind them.
module _ {X : Type 0} (before there : X → Bool) (xs rest : List X) (low : ℕ) (first : low ≡ prefix_len before xs) where
  pub rest_is : (size : ℕ) → rest ≡ take (size - low) (drop low xs) → size ≡ length xs → rest ≡ drop (prefix_len before xs) xs
  rest_is size cut all = cut ∙ ap (λ n. take (n - low) (drop low xs)) all ∙ take_rest xs low ∙ ap (λ n. drop n xs) first

  pub run_cut : (many : ℕ) → rest ≡ drop (prefix_len before xs) xs → many ≡ prefix_len there rest
      → take ((low + many) - low) (drop low xs) ≡ take (prefix_len there (drop (prefix_len before xs) xs)) (drop (prefix_len before xs) xs)
  run_cut many is next =
      let count : (low + many) - low ≡ many = omega arith in
      ap (λ n. take n (drop low xs)) (count ∙ next ∙ ap (prefix_len there) is) ∙ ap (λ n. take (prefix_len there (drop (prefix_len before xs) xs)) (drop n xs)) first
