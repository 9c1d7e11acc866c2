-- Where the lines of a text begin and end. A line ends with a newline, with a carriage return and a newline, or with a
-- carriage return alone; the end is no part of it, and n line ends make n + 1 lines.
use Rattle.std.specs.Prelude.{ℕ, zero, suc, ◌+◌, Bool, ◌&&◌, ◌||◌, ◌==◌, not, List, [], ◌∷◌, ◌++◌, length, drop, if◌then◌else◌, Option, slice_get, slice_index_or}
use Rattle.std.specs.Option.{option_map}

-- the byte at a place, 0 behind the end
abbrev pub byte_at : List ℕ → ℕ → ℕ
byte_at text i = slice_index_or text i 0

-- whether a line end has its last byte at this place
abbrev pub ends_line : List ℕ → ℕ → Bool
ends_line text i =
    byte_at text i == 10 || (byte_at text i == 13 && not (byte_at text (i + 1) == 10))

-- the starts of the lines that begin at one of the first n + 1 places
abbrev pub starts_to : List ℕ → ℕ → List ℕ
starts_to text zero = 0 ∷ []
starts_to text (suc n) = starts_to text n ++ (if ends_line text n then suc n ∷ [] else [])

-- where the lines begin, in their order
abbrev pub line_starts : List ℕ → List ℕ
line_starts text = starts_to text (length text)

-- whether the byte is the first one of a line end
abbrev pub is_end : ℕ → Bool
is_end b = b == 10 || b == 13

-- the bytes up to the first line end
abbrev pub first_line : List ℕ → List ℕ
first_line [] = []
first_line (b ∷ bytes) = if is_end b then [] else b ∷ first_line bytes

-- the line with this number, from 0, if the text has one
abbrev pub line_at : List ℕ → ℕ → Option (List ℕ)
line_at text line =
    option_map (λ start. first_line (drop start text)) (slice_get (line_starts text) line)
