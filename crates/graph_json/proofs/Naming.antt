-- The names that a printed graph gives its nodes: each is a name, and stands for its own position.
use Rattle.std.proofs.Common.{◌≡◌, ◌≢◌, ℕ, ◌+◌, ◌<◌, ◌≤◌, ◌^◌, zero, suc, List, [], ◌∷◌, Bool, true, false, Option, Some, None, length, get_or, decimal, position, nat_lt, refl, sym, ap, ◌∙◌, arith}
use Rattle.std.specs.List.{position_or_len, enumerate_from, AllByRecursion}
use Rattle.std.specs.Str.{bytes_eq}
use Rattle.std.proofs.lemmas.Bool.Decides.{nat_tests}
use Rattle.std.proofs.lemmas.Fmt.{length-decimal-le}
use Rattle.std.proofs.lemmas.List.Sums.{position_or_len_is}
use Rattle.std.proofs.lemmas.Slice.Eq.{bytes_eq-Decides}
use Rattle.serde_json.specs.Read.{number_of}
use Rattle.serde_json.proofs.Numbers.{number_of-decimal}
use Rattle.graph_json.specs.Named.{is_name, is_called, first_called, first_repeat, is_repeat}
use Rattle.graph_json.specs.Printed.{name_text}

lower : (n : ℕ) → n ≤ 20 → nat_lt n 256 ≡ true
lower n h = grind (arith, nat_tests)

pub is_name-name_text : (n : ℕ) → n < 2 ^ 32 → is_name (name_text n) ≡ true
is_name-name_text n h = lower (length (decimal n)) (length-decimal-le 20 n (omega arith) (omega (arith, h)) (omega (arith, h)))

same_number : (m n : ℕ) → m < 2 ^ 32 → n < 2 ^ 32 → name_text m ≡ name_text n → m ≡ n
same_number m n g h e =
    let digits : decimal m ≡ decimal n = cc in
    let read = sym (number_of-decimal m (omega (arith, g))) ∙ ap number_of digits ∙ number_of-decimal n (omega (arith, h)) in
    cc read

-- the names of n nodes, from a position on
abbrev pub numbered : {X : Type 0} → ℕ → List X → List (Option (List ℕ))
numbered n [] = []
numbered n (x ∷ xs) = Some (name_text n) ∷ numbered (n + 1) xs

length-numbered : {X : Type 0} (n : ℕ) (xs : List X) → length (numbered n xs) ≡ length xs
length-numbered n [] = refl
length-numbered n (x ∷ xs) = ap suc (length-numbered (n + 1) xs)

numbered-at : {X : Type 0} (n k : ℕ) (xs : List X) → k < length xs → get_or (numbered n xs) k None ≡ Some (name_text (n + k))
numbered-at n k [] h = absurd (omega (arith, h))
numbered-at n zero (x ∷ xs) h = let e : n + 0 ≡ n = omega arith in rw e refl
numbered-at n (suc k) (x ∷ xs) h = let e : n + suc k ≡ (n + 1) + k = omega arith in rw e (numbered-at (n + 1) k xs (omega (arith, h)))

no_match : (m n : ℕ) → m < 2 ^ 32 → n < 2 ^ 32 → m ≢ n → (b : Bool) → bytes_eq (name_text m) (name_text n) ≡ b → bytes_eq (name_text m) (name_text n) ≡ false
no_match m n g h other true e = absurd (other (same_number m n g h ((bytes_eq-Decides (name_text m) (name_text n)).0 e)))
no_match m n g h other false e = e

at_position : {X : Type 0} (p : X → Bool) (xs : List X) (n : ℕ) → position_or_len p xs ≡ n → n < length xs → position p xs ≡ Some n
at_position p xs n e h = grind (arith, nat_tests)

all_pass_by : {X : Type 0} (p : X → Bool) (xs : List X) → AllByRecursion (λ x. p x ≡ false) xs → position_or_len p xs ≡ length xs
all_pass_by p [] h = refl
all_pass_by p (y ∷ ys) h = rw h.0 (omega (arith, all_pass_by p ys h.1))

past : {X : Type 0} (p : X → Bool) (xs : List X) → position_or_len p xs ≡ length xs → position p xs ≡ None
past p xs e = grind (arith, nat_tests)

pub none_passes : {X : Type 0} (p : X → Bool) (xs : List X) → AllByRecursion (λ x. p x ≡ false) xs → position p xs ≡ None
none_passes p xs h = past p xs (all_pass_by p xs h)

module _ {X : Type 0} (xs : List X) (few : length xs < 2 ^ 32) where
  -- a name stands for its position
  pub first_called-numbered : (k : ℕ) → k < length xs → first_called (numbered 0 xs) (name_text k) ≡ Some k
  first_called-numbered k h =
      let p = is_called (name_text k) in
      let at = λ (j : ℕ) (g : j < length xs). numbered-at 0 j xs g in
      let place : position_or_len p (numbered 0 xs) ≡ k = position_or_len_is p (numbered 0 xs) k None (omega (arith, h, length-numbered 0 xs)) (λ j g. earlier j g) (λ _. here) in
      at_position p (numbered 0 xs) k place (omega (arith, h, length-numbered 0 xs))
    where
      earlier : (j : ℕ) → j < k → is_called (name_text k) (get_or (numbered 0 xs) j None) ≡ false
      earlier j g =
          let e : get_or (numbered 0 xs) j None ≡ Some (name_text j) = numbered-at 0 j xs (omega (arith, g, h)) ∙ ap (λ i. Some (name_text i)) (omega arith) in
          rw e (no_match k j (omega (arith, h, few)) (omega (arith, g, h, few)) (omega (arith, g)) (bytes_eq (name_text k) (name_text j)) refl)

      here : is_called (name_text k) (get_or (numbered 0 xs) k None) ≡ true
      here =
          let e : get_or (numbered 0 xs) k None ≡ Some (name_text k) = numbered-at 0 k xs h ∙ ap (λ i. Some (name_text i)) (omega arith) in
          rw e ((bytes_eq-Decides (name_text k) (name_text k)).1 refl)

  not_less : (k : ℕ) → nat_lt k k ≡ false
  not_less k = grind (arith, nat_tests)

  no_repeats : (n : ℕ) (ys : List X) → n + length ys ≤ length xs → AllByRecursion (λ (p : ℕ × Option (List ℕ)). is_repeat (numbered 0 xs) p.0 p.1 ≡ false) (enumerate_from n (numbered n ys))
  no_repeats n [] h = tt
  no_repeats n (y ∷ ys) h = (rw (first_called-numbered n (omega (arith, h))) (not_less n), no_repeats (n + 1) ys (omega (arith, h)))

  -- and no name comes twice
  pub first_repeat-numbered : first_repeat (numbered 0 xs) ≡ None
  first_repeat-numbered = none_passes (λ (p : ℕ × Option (List ℕ)). is_repeat (numbered 0 xs) p.0 p.1) (enumerate_from 0 (numbered 0 xs)) (no_repeats 0 xs (omega arith))
