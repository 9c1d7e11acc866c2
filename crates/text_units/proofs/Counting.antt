-- What one byte more adds to the units of a line, and where a column is.
use Rattle.std.proofs.Common.{◌≡◌, ℕ, ◌+◌, ◌<◌, Bool, true, false, List, [], ◌∷◌, ◌++◌, length, take, get_or, if◌then◌else◌, nat_lt, arith, ap, ◌∙◌, inr, IsTrue}
use Rattle.std.proofs.lemmas.Bool.{false≢true}
use Rattle.std.proofs.lemmas.List.{take_more}
use Rattle.text_units.specs.Units.{goes_on, units_of, units_in, IsColumn}

units-append : (bytes : List ℕ) (b : ℕ) → units_in (bytes ++ b ∷ []) ≡ units_in bytes + units_of b
units-append [] b = omega arith
units-append (a ∷ bytes) b = omega (arith, units-append bytes b)

-- with one byte more
pub units_more : (line : List ℕ) (i : ℕ) → i < length line → units_in (take (i + 1) line) ≡ units_in (take i line) + units_of (get_or line i 0)
units_more line i h = ap units_in (take_more line i 0 h) ∙ units-append (take i line) (get_or line i 0)

-- a byte that has units begins a character
begins : (t : Bool) (units n : ℕ) → n < (if t then 0 else units) → IsTrue t → ⊥
begins true units n h on = absurd (omega (arith, h))
begins false units n h on = absurd (false≢true on)

-- the column where the next character is too much
pub stops_at : (line : List ℕ) (units left i : ℕ) → i < length line → units_in (take i line) + left ≡ units
    → left < units_of (get_or line i 0) → IsColumn line units i
stops_at line units left i inside total too_much = record {
  inside = omega (arith, inside);
  whole = inr (begins (goes_on (get_or line i 0)) (if nat_lt (get_or line i 0) 240 then 1 else 2) left too_much);
  few = omega (arith, total);
  longest = λ h. omega (arith, total, too_much, units_more line i inside);
}
