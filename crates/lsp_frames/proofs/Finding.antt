-- Where the body is of what stands at the front, or why there is none.
use Rattle.std.proofs.Common.{◌≡◌, ℕ, ◌<◌, Bool, true, false, nat_lt, List, [], ◌∷◌, length, take, drop, Option, Some, None, Result, Ok, Err, if◌then◌else◌, refl, sym, ap, arith}
use Rattle.std.proofs.lemmas.Bool.{false≢true}
use Rattle.std.proofs.lemmas.List.{nil_from_length}
use Rattle.nav_io.specs.Reading.{Reading}
use Rattle.lsp_frames.specs.Blocks.{block_max, block_len, stated_length}
use Rattle.lsp_frames.specs.declared.reader.FrameError.{FrameError}
use Rattle.lsp_frames.specs.declared.reader.FrameError.TheVariants.{Broken}
use Rattle.lsp_frames.specs.declared.front.Place.{Place}
use Rattle.lsp_frames.specs.declared.front.Front.{Front}
use Rattle.lsp_frames.specs.declared.front.Front.TheVariants as front
use Rattle.lsp_frames.specs.Frames.{body_max, Cut, Nothing, Malformed, Large, Unfinished, Frame, cut, cut_block, cut_stated, cut_body, is_short, body_of}
use Rattle.lsp_frames.specs.Inside.{FindsFront, FindsFrame, IsPlaceOf}
use Rattle.lsp_frames.proofs.Cuts.{short-now}

abbrev is_nothing : Cut → Bool
is_nothing Nothing = true
is_nothing Malformed = false
is_nothing Large = false
is_nothing Unfinished = false
is_nothing (Frame body rest) = false

body_something : (n : ℕ) (behind : List ℕ) → is_nothing (cut_body n behind) ≡ false
body_something n behind = by (nat_lt body_max n) (nat_lt (length behind) n)
  where
    by : (large few : Bool) → is_nothing (if large then Large else (if few then Unfinished else Frame (take n behind) (drop n behind))) ≡ false
    by true few = refl
    by false true = refl
    by false false = refl

stated_something : (o : Option ℕ) (behind : List ℕ) → is_nothing (cut_stated o behind) ≡ false
stated_something None behind = refl
stated_something (Some n) behind = body_something n behind

block_something : (o : Option ℕ) (xs : List ℕ) → is_nothing (cut_block o xs) ≡ false
block_something None xs = by (nat_lt (length xs) block_max)
  where
    by : (few : Bool) → is_nothing (if few then Unfinished else Malformed) ≡ false
    by true = refl
    by false = refl
block_something (Some n) xs = stated_something (stated_length (take n xs)) (drop n xs)

something : (xs : List ℕ) → 0 < length xs → is_nothing (cut xs) ≡ false
something [] some = absurd (omega (arith, some))
something (x ∷ xs) some = block_something (block_len (x ∷ xs)) (x ∷ xs)

broken_by : (c : Cut) → is_short c ≡ true → is_nothing c ≡ false → body_of c ≡ Err Broken
broken_by Nothing short some = absurd (false≢true (sym some))
broken_by Malformed short some = refl
broken_by Large short some = absurd (false≢true short)
broken_by Unfinished short some = refl
broken_by (Frame body rest) short some = absurd (false≢true short)

pub place_found : (old mid : Reading) (left left' : Option (List ℕ)) (f : Front) (is_empty : Bool) (r : Result (Option Place) FrameError)
    → FindsFront old mid left left' (Ok f) → (is_empty ≡ true → length mid.front ≡ 0) → (is_empty ≡ false → 0 < length mid.front)
    → IsPlaceOf f is_empty r → FindsFrame old mid left left' r
place_found old mid left left' (front.Whole place) is_empty r found empty some is = rw is (record { finds = found.finds; found = found.found.0 })
place_found old mid left left' (front.Short wants) true r found empty some is =
    rw is (record { finds = found.finds; found = (nil_from_length mid.front (empty refl), found.found.1 (short-now wants mid.front found.found.0)) })
place_found old mid left left' (front.Short wants) false r found empty some is =
    let short = short-now wants mid.front found.found.0 in
    rw is (record { finds = found.finds; found = (broken_by (cut mid.front) short (something mid.front (some refl)), found.found.1) })
place_found old mid left left' front.Malformed is_empty r found empty some is =
    rw is (record { finds = found.finds; found = (ap body_of found.found.0, found.found.1) })
place_found old mid left left' front.Large is_empty r found empty some is = rw is (record { finds = found.finds; found = found.found.0 })
