-- How a text is cut into lines.
use Rattle.std.specs.Prelude.{◌≡◌, ℕ, ◌-◌, Bool, ◌==◌, List, [], ◌∷◌, ◌++◌, length, take, Option, None, Some}
use Rattle.std.specs.List.{slice_split, position_or_len, before_first, after_first}

-- the most bytes that a line may have, its newline not counted
abbrev pub line_max : ℕ
line_max = 8388608

-- the byte 10 ends a line
abbrev pub is_newline : ℕ → Bool
is_newline byte = byte == 10

-- how many bytes stand before the first newline, or in all where there is none
abbrev pub line_len : List ℕ → ℕ
line_len text = position_or_len is_newline text

-- what stands before the first newline, or all
abbrev pub first_line : List ℕ → List ℕ
first_line text = before_first is_newline text

-- what stands after the first newline, or nothing
abbrev pub after_line : List ℕ → List ℕ
after_line text = after_first is_newline text

-- the first line, or nothing where the text is empty
abbrev pub line_at_front : List ℕ → Option (List ℕ)
line_at_front [] = None
line_at_front (byte ∷ more) = Some (first_line (byte ∷ more))

-- the pieces of a text between its newlines: one more than it has newlines
abbrev pub pieces : List ℕ → List (List ℕ)
pieces text = slice_split is_newline text

-- the pieces that are lines: all but a last one that is empty
abbrev pub without_empty_last : List (List ℕ) → List (List ℕ)
without_empty_last [] = []
without_empty_last ([] ∷ []) = []
without_empty_last ((byte ∷ more) ∷ []) = (byte ∷ more) ∷ []
without_empty_last (piece ∷ next ∷ others) = piece ∷ without_empty_last (next ∷ others)

-- The lines of a text: its pieces between newlines; a last piece without a newline is a line where it isn't empty.
abbrev pub lines : List ℕ → List (List ℕ)
lines text = without_empty_last (pieces text)

-- The whole lines of a text: its pieces that a newline ends, which are all but the last.
abbrev pub whole_lines : List ℕ → List (List ℕ)
whole_lines text = take (length (pieces text) - 1) (pieces text)

-- no byte of it is a newline
abbrev pub HasNoNewline : List ℕ → Type 0
HasNoNewline text = line_len text ≡ length text

-- these lines, each with its newline
abbrev pub ended_lines : List (List ℕ) → List ℕ
ended_lines [] = []
ended_lines (line ∷ others) = line ++ 10 ∷ ended_lines others
