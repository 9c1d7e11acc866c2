-- What is seen of a line reader, and what a call of it says of the text ahead.
use Rattle.std.specs.Prelude.{◌≡◌, ℕ, ◌<◌, ◌≤◌, ◌⊎◌, Bool, ◌||◌, true, false, IsTrue, if◌then◌else◌, nat_lt, nat_le, List, [], ◌∷◌, ◌++◌, length, take, drop, Option, None, Some, IfSome, MatchOption}
use Rattle.std.specs.Option.{option_map}
use Rattle.std.specs.Io.KnownBytes.{prepend_known, IsAtEnd}
use Rattle.nav_io.specs.declared.lines.LineError.{LineError}
use Rattle.nav_io.specs.declared.lines.LineError.TheVariants.{ReadFault, NoMemory, TooLong}
use Rattle.nav_io.specs.Lines.{line_max, line_len, line_at_front, after_line}

-- A line reader: the bytes that it took and hasn't answered yet, and whether it met the end of input.
pub record Reading : Type 0 where
  pub front : List ℕ
  pub ended : Bool

-- one that holds these bytes, of which those before start are answered
abbrev pub reading_of : ℕ → List ℕ → Bool → Reading
reading_of start held ended = record { front = drop start held; ended = ended }

-- The text ahead, where the source tells what it has left: the bytes in front, and then those left, which a reader that met the end doesn't ask for.
abbrev pub ahead : Reading → Option (List ℕ) → Option (List ℕ)
ahead reader left =
    option_map (λ bytes. if reader.ended then reader.front else reader.front ++ bytes) left

-- What a search for what is wanted leaves of a reader, where left became left':
pub record Finds (old mid : Reading) (left left' : Option (List ℕ)) : Type 0 where
  -- no byte is lost
  pub kept : prepend_known mid.front left' ≡ prepend_known old.front left
  -- behind the end nothing is read
  pub past_end : old.ended ≡ true → (mid.front ≡ old.front) × (left' ≡ left) × (mid.ended ≡ true)
  -- the end was met before, or the source has nothing left
  pub at_end : mid.ended ≡ true → (old.ended ≡ true) ⊎ IsAtEnd left'

-- After a line or at the end, where next is the line and left became left':
pub record AfterLine (old new : Reading) (left left' next : Option (List ℕ)) : Type 0 where
  -- what stood behind the line is ahead
  pub rest : ahead new left' ≡ option_map after_line (ahead old left)
  -- without a line, nothing is ahead
  pub none : next ≡ None → (new.front ≡ []) × IsTrue new.ended
  -- a source of which the reader met the end has nothing left
  pub at_end : (IsTrue old.ended → IsAtEnd left) → IsTrue new.ended → IsAtEnd left'
  -- a newline ended the line, or the reader met the end
  pub ended_by : IfSome next (λ line.
      (prepend_known old.front left ≡ prepend_known (line ++ 10 ∷ new.front) left')
      ⊎ IsTrue new.ended)

-- After an error, where left became left':
pub record AfterError (old new : Reading) (left left' : Option (List ℕ))
    (error : LineError) : Type 0 where
  -- no byte is lost
  pub kept : prepend_known new.front left' ≡ prepend_known old.front left
  pub same_end : new.ended ≡ old.ended
  -- a source of which the reader met the end has nothing left
  pub at_end : (IsTrue old.ended → IsAtEnd left) → IsTrue new.ended → IsAtEnd left'
  -- a fault comes only where no line is in front and the end wasn't met
  pub fault : error ≡ ReadFault → (line_len new.front ≡ length new.front) × (new.ended ≡ false)
  -- and so does want of memory, while no more bytes are in front than a line may have
  pub memory : error ≡ NoMemory
      → (line_len new.front ≡ length new.front) × (new.ended ≡ false) × (length new.front ≤ line_max)
  -- a line that is too long is in front
  pub too_long : error ≡ TooLong → line_max < line_len new.front

-- the first line in front is whole: a newline ends it, or the end was met
abbrev pub is_whole : Reading → Bool
is_whole reader = reader.ended || nat_lt (line_len reader.front) (length reader.front)

-- the first line in front, if it is whole; at the end of input there is none
abbrev pub whole_line : Reading → Option (List ℕ)
whole_line reader = if is_whole reader then line_at_front reader.front else None

-- the reader without the whole line in front, if there is one
abbrev pub past_whole_line : Reading → Reading
past_whole_line reader =
    record reader { front = if is_whole reader then after_line reader.front else reader.front }

-- the first n bytes of a text, or nothing where it has fewer
abbrev pub bytes_at_front : ℕ → List ℕ → Option (List ℕ)
bytes_at_front n text = if nat_le n (length text) then Some (take n text) else None

-- n bytes are in front, or no more will come
abbrev pub has_bytes : ℕ → Reading → Bool
has_bytes n reader = reader.ended || nat_le n (length reader.front)

-- the bytes, or none
abbrev pub bytes_or_none : Option (List ℕ) → List ℕ
bytes_or_none None = []
bytes_or_none (Some bytes) = bytes

-- After n bytes or at the end, where next are the bytes and left became left':
pub record AfterBytes (n : ℕ) (old new : Reading) (left left' next : Option (List ℕ)) : Type 0 where
  -- what stood behind the bytes is ahead, and all where there are none
  pub rest : MatchOption next (ahead new left' ≡ ahead old left)
      (λ bytes. ahead new left' ≡ option_map (drop n) (ahead old left))
  -- no byte is lost
  pub kept : prepend_known (bytes_or_none next ++ new.front) left' ≡ prepend_known old.front left
  -- without the bytes, fewer are in front and the end was met
  pub none : next ≡ None → (length new.front < n) × IsTrue new.ended
  -- a source of which the reader met the end has nothing left
  pub at_end : (IsTrue old.ended → IsAtEnd left) → IsTrue new.ended → IsAtEnd left'

-- After an error in place of n bytes, where left became left':
pub record AfterBytesError (n : ℕ) (old new : Reading) (left left' : Option (List ℕ))
    (error : LineError) : Type 0 where
  -- no byte is lost
  pub kept : prepend_known new.front left' ≡ prepend_known old.front left
  pub same_end : new.ended ≡ old.ended
  -- a source of which the reader met the end has nothing left
  pub at_end : (IsTrue old.ended → IsAtEnd left) → IsTrue new.ended → IsAtEnd left'
  -- a fault comes only where fewer are in front and the end wasn't met
  pub fault : error ≡ ReadFault → (length new.front < n) × (new.ended ≡ false)
  -- and so does want of memory
  pub memory : error ≡ NoMemory → (length new.front < n) × (new.ended ≡ false)
