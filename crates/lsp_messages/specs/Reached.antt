-- How far the messages that were read reach in an input.
use Rattle.std.specs.Prelude.{◌≡◌, ℕ, true, IsTrue, List, [], ◌++◌, Option}
use Rattle.std.specs.Io.KnownBytes.{prepend_known, IsAtEnd}
use Rattle.nav_io.specs.Reading.{Reading}
use Rattle.lsp_frames.specs.Frames.{cut, is_short}
use Rattle.lsp_messages.specs.Inputs.{AreFrames, HaveNoExit}

-- the one list of messages begins the other
abbrev pub AreFirst : List (List ℕ) → List (List ℕ) → Type 0
AreFirst some all = (more : List (List ℕ)) × (some ++ more ≡ all)

-- These messages were read of a source that had left the first of these inputs, and has the second one left now: their
-- frames, and then what is in front of the reader, were taken. A source of which the reader met the end has no more.
pub record HasRead (done : List (List ℕ)) (input : Option (List ℕ)) (reader : Reading)
    (left : Option (List ℕ)) : Type 0 where
  pub taken : List ℕ
  pub frames : AreFrames done taken []
  -- the frames and what is in front are all that was taken of the input
  pub kept : prepend_known (taken ++ reader.front) left ≡ input
  pub at_end : IsTrue reader.ended → IsAtEnd left

-- the messages are those of whole frames at the front of the bytes that were taken
pub record AreTaken (answered : List (List ℕ)) (left left' : Option (List ℕ)) : Type 0 where
  pub taken : List ℕ
  pub split : left ≡ prepend_known taken left'
  pub rest : List ℕ
  pub whole : AreFrames answered taken rest

-- they are all the whole ones among the bytes that were taken, and none ends the session
pub record AreAllTaken (answered : List (List ℕ)) (left left' : Option (List ℕ)) : Type 0 where
  pub taken : List ℕ
  pub split : left ≡ prepend_known taken left'
  pub rest : List ℕ
  pub whole : AreFrames answered taken rest
  pub no_more : is_short (cut rest) ≡ true
  pub no_exit : HaveNoExit answered
