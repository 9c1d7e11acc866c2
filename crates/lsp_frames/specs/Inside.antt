-- What the parts of the reader answer. No public clause cites it.
use Rattle.std.specs.Prelude.{◌≡◌, ℕ, ◌-◌, ◌<◌, ◌≤◌, Bool, true, false, List, [], ◌∷◌, ◌++◌, length, take, drop, Option, None, Some, MatchOption, Result, Ok, Err, MatchResult}
use Rattle.std.specs.Option.{option_map}
use Rattle.lsp_frames.specs.Blocks.{block_len, lines_from, only_one, stated_length}
use Rattle.nav_io.specs.Reading.{Reading, Finds}
use Rattle.nav_io.specs.declared.taking.TakeError.{TakeError}
use Rattle.nav_io.specs.declared.taking.TakeError.TheVariants.{ReadFault as take_fault, NoMemory as take_memory}
use Rattle.lsp_frames.specs.Frames.{body_max, Malformed, Large, cut, is_short, body_of}
use Rattle.lsp_frames.specs.declared.reader.FrameError.{FrameError}
use Rattle.lsp_frames.specs.declared.reader.FrameError.TheVariants.{ReadFault, Broken, TooLong, NoMemory}
use Rattle.lsp_frames.specs.declared.lengths.Stated.{Stated}
use Rattle.lsp_frames.specs.declared.lengths.Stated.TheVariants as stated
use Rattle.lsp_frames.specs.declared.front.Front.{Front}
use Rattle.lsp_frames.specs.declared.front.Front.TheVariants as front
use Rattle.lsp_frames.specs.declared.front.Place.{Place}

-- the error of a frame reader after an error of taking bytes
abbrev pub frame_error_of : TakeError → FrameError
frame_error_of take_fault = ReadFault
frame_error_of take_memory = NoMemory

-- the one length that a line states
abbrev pub States : Stated → Option ℕ → Type 0
States stated.Absent said = ⊥
States stated.Wrong said = said ≡ None
States stated.Large said = (n : ℕ) × (said ≡ Some n) × (body_max < n)
States (stated.Bytes m) said = (said ≡ Some m) × (m ≤ body_max)

-- what the lines so far state, where all state the lengths `all` and those left the lengths `rest`
abbrev pub StatesSoFar : Stated → List (Option ℕ) → List (Option ℕ) → Type 0
StatesSoFar stated.Absent all rest = all ≡ rest
StatesSoFar stated.Wrong all rest = only_one all ≡ None
StatesSoFar stated.Large all rest = (n : ℕ) × (all ≡ Some n ∷ rest) × (body_max < n)
StatesSoFar (stated.Bytes m) all rest = (all ≡ Some m ∷ rest) × (m ≤ body_max)

-- what a block states
abbrev pub StatesAll : Stated → Option ℕ → Type 0
StatesAll stated.Absent said = said ≡ None
StatesAll stated.Wrong said = said ≡ None
StatesAll stated.Large said = (n : ℕ) × (said ≡ Some n) × (body_max < n)
StatesAll (stated.Bytes m) said = (said ≡ Some m) × (m ≤ body_max)

-- the lines that end behind the first bytes of a block, of which the first begins at the start
abbrev pub lines_left : ℕ → ℕ → List ℕ → List (List ℕ)
lines_left start n block = lines_from (drop start (take n block)) (drop n block)

-- the most bytes that a whole frame has
abbrev pub frame_max : ℕ
frame_max = 8392704

-- a whole frame stands at the front, and its body there
pub record IsBodyAt (place : Place) (input : List ℕ) : Type 0 where
  pub block : block_len input ≡ Some place.from
  pub order : place.from ≤ place.to
  pub states : stated_length (take place.from input) ≡ Some (place.to - place.from)
  pub most : place.to - place.from ≤ body_max
  pub within : place.to ≤ length input

-- no whole frame stands there, nor where fewer bytes are there than these
pub record IsShortOf (wants : ℕ) (input : List ℕ) : Type 0 where
  pub few : length input < wants
  pub most : wants ≤ frame_max
  pub short : (more : List ℕ) → length (input ++ more) < wants
      → is_short (cut (input ++ more)) ≡ true

-- what stands at the front of the input
abbrev pub IsFront : Front → List ℕ → Type 0
IsFront (front.Whole place) input = IsBodyAt place input
IsFront (front.Short wants) input = IsShortOf wants input
IsFront front.Malformed input = cut input ≡ Malformed
IsFront front.Large input = cut input ≡ Large

-- the body that stands at the place, or none
abbrev pub body_at : Option Place → List ℕ → Option (List ℕ)
body_at found input =
    option_map (λ (place : Place). take (place.to - place.from) (drop place.from input)) found

-- what stands behind it
abbrev pub behind : Option Place → List ℕ → List ℕ
behind None input = input
behind (Some place) input = drop place.to input

-- a fault of the source or want of memory came where no whole frame was taken and the end wasn't met
abbrev pub IsCutOff : FrameError → Reading → Type 0
IsCutOff ReadFault mid = (is_short (cut mid.front) ≡ true) × (mid.ended ≡ false)
IsCutOff NoMemory mid = (is_short (cut mid.front) ≡ true) × (mid.ended ≡ false)
IsCutOff Broken mid = ⊥
IsCutOff TooLong mid = ⊥

-- the front is settled or the end was met
pub record FindsFront (old mid : Reading) (left left' : Option (List ℕ))
    (result : Result Front FrameError) : Type 0 where
  pub finds : Finds old mid left left'
  pub found : MatchResult result
      (λ front. IsFront front mid.front × (is_short (cut mid.front) ≡ true → mid.ended ≡ true))
      (λ error. IsCutOff error mid)

-- the place of the body of what stands at the front, where the input ends with what is short
abbrev pub IsPlaceOf : Front → Bool → Result (Option Place) FrameError → Type 0
IsPlaceOf (front.Whole place) is_empty result = result ≡ Ok (Some place)
IsPlaceOf (front.Short wants) true result = result ≡ Ok None
IsPlaceOf (front.Short wants) false result = result ≡ Err Broken
IsPlaceOf front.Malformed is_empty result = result ≡ Err Broken
IsPlaceOf front.Large is_empty result = result ≡ Err TooLong

-- why no body was found
abbrev pub IsWhy : FrameError → Reading → Type 0
IsWhy ReadFault mid = (is_short (cut mid.front) ≡ true) × (mid.ended ≡ false)
IsWhy NoMemory mid = (is_short (cut mid.front) ≡ true) × (mid.ended ≡ false)
IsWhy Broken mid =
    (body_of (cut mid.front) ≡ Err Broken) × (is_short (cut mid.front) ≡ true → mid.ended ≡ true)
IsWhy TooLong mid = cut mid.front ≡ Large

-- the first frame was looked for: the input ended, or its body stands there, or it is told why none was found
pub record FindsFrame (old mid : Reading) (left left' : Option (List ℕ))
    (result : Result (Option Place) FrameError) : Type 0 where
  pub finds : Finds old mid left left'
  pub found : MatchResult result
      (λ found. MatchOption found ((mid.front ≡ []) × (mid.ended ≡ true))
      (λ place. IsBodyAt place mid.front))
      (λ error. IsWhy error mid)
