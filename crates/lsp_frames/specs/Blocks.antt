-- Which block of header lines stands at the front of an input, and which length of a body it states.
use Rattle.std.specs.Prelude.{ℕ, zero, suc, ◌+◌, ◌*◌, ◌-◌, ◌==◌, ◌&&◌, ◌||◌, Bool, not, nat_le, min, List, [], ◌∷◌, ◌++◌, length, take, drop, map, if◌then◌else◌, is_none, Option, None, Some, codes}
use Rattle.std.specs.Char.{to_ascii_lowercase}
use Rattle.std.specs.List.{ends_with, fold, filter_map, position, position_or_len}
use Rattle.std.specs.Option.{option_or}
use Rattle.std.specs.Str.{bytes_eq}

-- the most bytes that a block may have, with the empty line that ends it
abbrev pub block_max : ℕ
block_max = 4096

-- carriage return and newline end a line
abbrev pub line_end : List ℕ
line_end = 13 ∷ 10 ∷ []

-- whether the text ends with an end of a line
abbrev pub ends_line : List ℕ → Bool
ends_line text = ends_with (λ a b. a == b) text line_end

-- the text ends with an empty line: it is one, or an end of a line stands before it
abbrev pub ends_block : List ℕ → Bool
ends_block text = bytes_eq text line_end || ends_with (λ a b. a == b) text (line_end ++ line_end)

-- the least number below n that passes the test
abbrev pub least : (ℕ → Bool) → ℕ → Option ℕ
least test zero = None
least test (suc n) = option_or (least test n) (if test n then Some n else None)

-- the bytes of the block: the fewest at the front of the input that end with an empty line
abbrev pub block_len : List ℕ → Option ℕ
block_len input = least (λ n. ends_block (take n input)) (min (length input) block_max + 1)

-- the lines of a block without their ends, where so much of the first was met
abbrev pub without_end : List ℕ → List ℕ
without_end text = take (length text - 2) text

-- the lines that have an end; what follows the last end is no line
abbrev pub lines_from : List ℕ → List ℕ → List (List ℕ)
lines_from begun [] = []
lines_from begun (byte ∷ more) =
    if ends_line (begun ++ byte ∷ [])
    then without_end (begun ++ byte ∷ []) ∷ lines_from [] more
    else lines_from (begun ++ byte ∷ []) more

-- `Content-Length`, in letters of either case
abbrev pub is_length_name : List ℕ → Bool
is_length_name name = bytes_eq (map to_ascii_lowercase name) (codes "content-length")

-- a colon
abbrev pub is_colon : ℕ → Bool
is_colon byte = byte == 58

-- any byte but a space
abbrev pub is_no_space : ℕ → Bool
is_no_space byte = not (byte == 32)

-- any byte but a decimal digit
abbrev pub is_no_digit : ℕ → Bool
is_no_digit byte = not (nat_le 48 byte && nat_le byte 57)

-- the number that decimal digits are
abbrev pub number : List ℕ → ℕ
number digits = fold (λ n digit. 10 * n + (digit - 48)) 0 digits

-- the number of a value: one or more digits, with any spaces round them
abbrev pub number_at_front : ℕ → List ℕ → Option ℕ
number_at_front n value =
    if nat_le 1 n && is_none (position is_no_space (drop n value))
    then Some (number (take n value)) else None

-- a value without the spaces in front of it
abbrev pub without_spaces : List ℕ → List ℕ
without_spaces value = drop (position_or_len is_no_space value) value

-- the number that a value is
abbrev pub length_of : List ℕ → Option ℕ
length_of value =
    number_at_front (position_or_len is_no_digit (without_spaces value)) (without_spaces value)

-- what stands behind a line's first colon, where that name stands before it
abbrev pub value_behind : Option ℕ → List ℕ → Option (List ℕ)
value_behind None line = None
value_behind (Some n) line = if is_length_name (take n line) then Some (drop (n + 1) line) else None

-- the same, by the line's own first colon
abbrev pub value_in : List ℕ → Option (List ℕ)
value_in line = value_behind (position is_colon line) line

-- the lengths that lines state, each with its number if the value is one
abbrev pub lengths_in : List (List ℕ) → List (Option ℕ)
lengths_in lines = map length_of (filter_map value_in lines)

-- the length that a block states: exactly one line states one
abbrev pub only_one : List (Option ℕ) → Option ℕ
only_one [] = None
only_one (stated ∷ []) = stated
only_one (stated ∷ other ∷ others) = None

-- the length that the lines of the block state
abbrev pub stated_length : List ℕ → Option ℕ
stated_length block = only_one (lengths_in (lines_from [] block))
