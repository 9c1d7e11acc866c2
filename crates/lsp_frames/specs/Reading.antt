-- What a call of a frame reader says of the text ahead.
use Rattle.std.specs.Prelude.{◌≡◌, ℕ, ◌||◌, Bool, true, false, not, IsTrue, List, [], ◌++◌, Option, None, MatchOption, Err}
use Rattle.std.specs.Option.{option_map}
use Rattle.std.specs.Io.KnownBytes.{prepend_known, IsAtEnd}
use Rattle.nav_io.specs.Reading.{Reading, ahead}
use Rattle.lsp_frames.specs.Frames.{Unfinished, Large, Frame, cut, is_short, body_of, rest_of}
use Rattle.lsp_frames.specs.declared.reader.FrameError.{FrameError}
use Rattle.lsp_frames.specs.declared.reader.FrameError.TheVariants.{ReadFault, Broken, TooLong, NoMemory}

-- what is in front tells what stands there: a whole frame or none, whatever follows, or the end was met
abbrev pub is_settled : Reading → Bool
is_settled reader = reader.ended || not (is_short (cut reader.front))

-- the bytes are a whole frame with this body, and nothing behind it
abbrev pub IsFrame : List ℕ → List ℕ → Type 0
IsFrame body frame = cut frame ≡ Frame body []

-- After a frame or at the end, where next is the body and left became left':
pub record AfterFrame (old new : Reading) (left left' next : Option (List ℕ)) : Type 0 where
  -- what stood behind the frame is ahead
  pub rest : ahead new left' ≡ option_map (λ text. rest_of (cut text)) (ahead old left)
  -- the frame was taken away, and no other byte
  pub kept : MatchOption next (prepend_known new.front left' ≡ prepend_known old.front left)
      (λ body. (frame : List ℕ) × IsFrame body frame
      × (prepend_known (frame ++ new.front) left' ≡ prepend_known old.front left))
  -- without a body, nothing is ahead
  pub none : next ≡ None → (new.front ≡ []) × IsTrue new.ended
  -- a source of which the reader met the end has nothing left
  pub at_end : (IsTrue old.ended → IsAtEnd left) → IsTrue new.ended → IsAtEnd left'

-- After an error, where left became left':
pub record AfterFrameError (old new : Reading) (left left' : Option (List ℕ))
    (error : FrameError) : Type 0 where
  -- no byte is lost
  pub kept : prepend_known new.front left' ≡ prepend_known old.front left
  -- a source of which the reader met the end has nothing left
  pub at_end : (IsTrue old.ended → IsAtEnd left) → IsTrue new.ended → IsAtEnd left'
  -- a fault comes only where what was taken is nothing or a beginning of a frame, and the end wasn't met
  pub fault : error ≡ ReadFault → (is_short (cut new.front) ≡ true) × (new.ended ≡ false)
  -- and so does want of memory
  pub memory : error ≡ NoMemory → (is_short (cut new.front) ≡ true) × (new.ended ≡ false)
  -- what is in front tells the other errors, a frame that isn't whole only at the end
  pub broken : error ≡ Broken
      → (body_of (cut new.front) ≡ Err Broken) × (cut new.front ≡ Unfinished → IsTrue new.ended)
  pub too_long : error ≡ TooLong → cut new.front ≡ Large
