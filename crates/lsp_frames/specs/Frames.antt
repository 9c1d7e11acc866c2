-- How an input is cut into frames, each a block of header lines and a body, and which text a frame has.
use Rattle.std.specs.Prelude.{◌≡◌, ℕ, Bool, true, false, nat_lt, List, [], ◌∷◌, ◌++◌, length, take, drop, if◌then◌else◌, Option, None, Some, Result, Ok, Err, codes, decimal}
use Rattle.lsp_frames.specs.Blocks.{block_max, block_len, stated_length}
use Rattle.lsp_frames.specs.declared.reader.FrameError.{FrameError}
use Rattle.lsp_frames.specs.declared.reader.FrameError.TheVariants.{Broken, TooLong}

-- the most bytes that a body may have
abbrev pub body_max : ℕ
body_max = 8388608

-- What stands at the front of an input: nothing, since it is empty; no frame, whatever follows; a block that states too
-- long a body; a beginning of a frame that isn't whole; or a whole frame, its body and what stands behind it.
pub data Cut : Type 0 where
  Nothing : Cut
  Malformed : Cut
  Large : Cut
  Unfinished : Cut
  Frame : List ℕ → List ℕ → Cut

-- where the block states a body of so many bytes
abbrev pub cut_body : ℕ → List ℕ → Cut
cut_body n behind =
    if nat_lt body_max n then Large else
    (if nat_lt (length behind) n then Unfinished else Frame (take n behind) (drop n behind))

-- where the block states this length or none
abbrev pub cut_stated : Option ℕ → List ℕ → Cut
cut_stated None behind = Malformed
cut_stated (Some n) behind = cut_body n behind

-- where the block has so many bytes, or none ends where it may
abbrev pub cut_block : Option ℕ → List ℕ → Cut
cut_block None input = if nat_lt (length input) block_max then Unfinished else Malformed
cut_block (Some n) input = cut_stated (stated_length (take n input)) (drop n input)

-- what stands at the front of an input; where it is empty, nothing
abbrev pub cut : List ℕ → Cut
cut [] = Nothing
cut (byte ∷ more) = cut_block (block_len (byte ∷ more)) (byte ∷ more)

-- no whole frame stands there, and more bytes may make one
abbrev pub is_short : Cut → Bool
is_short Nothing = true
is_short Malformed = false
is_short Large = false
is_short Unfinished = true
is_short (Frame body rest) = false

-- the body, if there is one, or why not
abbrev pub body_of : Cut → Result (Option (List ℕ)) FrameError
body_of Nothing = Ok None
body_of Malformed = Err Broken
body_of Large = Err TooLong
body_of Unfinished = Err Broken
body_of (Frame body rest) = Ok (Some body)

-- what stands behind the frame
abbrev pub rest_of : Cut → List ℕ
rest_of Nothing = []
rest_of Malformed = []
rest_of Large = []
rest_of Unfinished = []
rest_of (Frame body rest) = rest

-- the text of a frame that is written: one header line, an empty line, and the body
abbrev pub frame_text : List ℕ → List ℕ
frame_text body = codes "Content-Length: " ++ decimal (length body) ++ codes "\r\n\r\n" ++ body

-- what follows a whole frame doesn't change it
abbrev pub FramesStay : Type 0
FramesStay =
    (input more body rest : List ℕ) → cut input ≡ Frame body rest
    → cut (input ++ more) ≡ Frame body (rest ++ more)
