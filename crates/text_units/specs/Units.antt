-- UTF-16 code units of a text in UTF-8. A byte of the form 10xxxxxx goes on with a character, any other begins one; a
-- character whose first byte is 240 or more takes two units, any other one.
use Rattle.std.specs.Prelude.{◌≡◌, ℕ, ◌+◌, ◌<◌, ◌≤◌, ◌⊎◌, true, List, [], ◌∷◌, length, take, if◌then◌else◌, nat_lt, Option, Some, None, Bool, ◌&&◌, not, IsTrue}
use Rattle.std.specs.Char.Escape.{encode_utf16}
use Rattle.std.specs.List.{flat_map}
use Rattle.std.specs.Str.{encode_utf8_all, all_scalars}
use Rattle.text_units.specs.Lines.{byte_at}

-- whether the byte goes on with a character
abbrev pub goes_on : ℕ → Bool
goes_on b = not (nat_lt b 128) && nat_lt b 192

-- the units of the character that the byte begins, and none where it begins none
abbrev pub units_of : ℕ → ℕ
units_of b = if goes_on b then 0 else if nat_lt b 240 then 1 else 2

-- the units of the characters that begin in the bytes
abbrev pub units_in : List ℕ → ℕ
units_in [] = 0
units_in (b ∷ bytes) = units_of b + units_in bytes

-- A column in bytes for one in units: the length of the longest run of whole characters from the line's start that has at
-- most so many units.
pub record IsColumn (line : List ℕ) (units column : ℕ) : Type 0 where
  pub inside : column ≤ length line
  -- a character begins there, or the line ends
  pub whole : (column ≡ length line) ⊎ (¬ IsTrue (goes_on (byte_at line column)))
  pub few : units_in (take column line) ≤ units
  -- the next character is too much
  pub longest : column < length line → units < units_in (take (column + 1) line)

-- the column in bytes for one in units on this line, and nothing where there is no line
abbrev pub IsBytesAt : Option (List ℕ) → ℕ → Option ℕ → Type 0
IsBytesAt None units result = result ≡ None
IsBytesAt (Some line) units result =
    (column : ℕ) × (result ≡ Some column) × IsColumn line units column

-- the units before a column in bytes of this line, and nothing where there is no line
abbrev pub IsUnitsAt : Option (List ℕ) → ℕ → Option ℕ → Type 0
IsUnitsAt None column result = result ≡ None
IsUnitsAt (Some line) column result = result ≡ Some (units_in (take column line))

-- For a text in UTF-8 the units are those that UTF-16 has.
abbrev pub CountsUtf16 : Type 0
CountsUtf16 =
    (characters : List ℕ) → all_scalars characters ≡ true
    → units_in (encode_utf8_all characters) ≡ length (flat_map encode_utf16 characters)
