-- A symbol's head: its first seven bytes and its length up to 8 in one number, by which most texts are told apart.
-- No definition of a path cites it.
use Rattle.std.specs.Prelude.{◌≡◌, ℕ, zero, suc, ◌+◌, ◌*◌, ◌<◌, List, length, min, slice_index}

-- the number of the first n bytes, the first greatest, with zeros behind a text that is shorter
abbrev pub front : ℕ → List ℕ → ℕ
front zero text = 0
front (suc n) text = front n text * 256 + slice_index text n

-- the length up to 8, and 1, so that no head is 0
abbrev pub last_digit : List ℕ → ℕ
last_digit text = min (length text) 8 + 1

abbrev pub head : List ℕ → ℕ
head text = front 7 text * 256 + last_digit text

-- the number is the text's head, and the text's bytes are digits
pub record IsHead (number : ℕ) (text : List ℕ) : Type 0 where
  pub value : number ≡ head text
  pub bytes : (place : ℕ) → slice_index text place < 256
