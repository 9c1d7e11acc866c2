-- Numbers of header lines, and where the bytes of a kind end.
use Rattle.std.proofs.Common.{◌≡◌, ℕ, ◌≤◌, Bool, true, false, List, length, not, nat_lt, Some, None, cond, refl, sym, arith}
use Rattle.std.proofs.lemmas.Bool.{ltb-false}
use Rattle.std.proofs.lemmas.List.Sums.{prefix_len-le-length}
use Rattle.std.proofs.lemmas.Option.{none-some, same_Some}
use Rattle.std.specs.List.{position, position_or_len}

pub position-some : (p : ℕ → Bool) (xs : List ℕ) (n : ℕ) → Some n ≡ position p xs → (n ≡ position_or_len p xs) × (n ≤ length xs)
position-some p xs n e = by (nat_lt (position_or_len p xs) (length xs)) e
  where
    by : (b : Bool) → Some n ≡ cond b (Some (position_or_len p xs)) None → (n ≡ position_or_len p xs) × (n ≤ length xs)
    by true e = let same = same_Some _ _ e in (same, omega (arith, same, prefix_len-le-length (λ x. not (p x)) xs))
    by false e = absurd (none-some n (sym e))

pub position-none : (p : ℕ → Bool) (xs : List ℕ) → None ≡ position p xs → length xs ≡ position_or_len p xs
position-none p xs e = by (nat_lt (position_or_len p xs) (length xs)) refl e
  where
    by : (b : Bool) → nat_lt (position_or_len p xs) (length xs) ≡ b → None ≡ cond b (Some (position_or_len p xs)) None → length xs ≡ position_or_len p xs
    by true is e = absurd (none-some _ e)
    by false is e = omega (arith, ltb-false _ _ is, prefix_len-le-length (λ x. not (p x)) xs)

pub ruleset places = (position-some, position-none)
