-- What a frame reader says of the text ahead, from what it says of the bytes in front.
use Rattle.std.proofs.Common.{◌≡◌, ℕ, ◌-◌, ◌≤◌, List, [], ◌++◌, length, take, drop, refl, sym, ap, ◌∙◌, arith, Option, Some, None, MatchOption, Result, Ok, Err, Bool, true, false, not, ◌||◌, length-take, take-append-drop}
use Rattle.std.proofs.lemmas.Bool.{false≢true}
use Rattle.std.proofs.lemmas.Option.{none-some}
use Rattle.std.specs.Option.{IfSome, option_map}
use Rattle.std.specs.Io.KnownBytes.{prepend_known}
use Rattle.nav_io.specs.Reading.{Reading, Finds, ahead}
use Rattle.nav_io.proofs.ReadingLaws.{ahead-kept, at_end_of}
use Rattle.lsp_frames.specs.declared.reader.FrameError.{FrameError}
use Rattle.lsp_frames.specs.declared.reader.FrameError.TheVariants.{ReadFault, Broken, TooLong, NoMemory}
use Rattle.lsp_frames.specs.declared.front.Place.{Place}
use Rattle.lsp_frames.specs.Frames.{Cut, Nothing, Malformed, Large, Unfinished, Frame, cut, is_short, body_of, rest_of, body_max}
use Rattle.lsp_frames.specs.Reading.{is_settled, AfterFrame, AfterFrameError}
use Rattle.lsp_frames.specs.Inside.{IsBodyAt, IsWhy, body_at, behind}
use Rattle.lsp_frames.proofs.Cuts.{grown, cut-append, cut-body_at, cut-frame}

-- what is short isn't settled before the end
pub unsettled : (front : List ℕ) (ended : Bool) → is_short (cut front) ≡ true → ended ≡ false
    → is_settled (record { front = front; ended = ended }) ≡ true → ⊥
unsettled front ended short more is = false≢true ((λ i. sym more i || not (sym short i)) ∙ is)

body_of-grown : (c : Cut) (ys : List ℕ) → body_of (grown c ys) ≡ body_of c
body_of-grown Nothing ys = refl
body_of-grown Malformed ys = refl
body_of-grown Large ys = refl
body_of-grown Unfinished ys = refl
body_of-grown (Frame body rest) ys = refl

-- what stands in front is what stands ahead, where it is settled or the end was met
told_by : (front : List ℕ) (ended : Bool) (left : Option (List ℕ)) → (is_short (cut front) ≡ true → ended ≡ true)
    → IfSome (ahead (record { front = front; ended = ended }) left) (λ text. body_of (cut text) ≡ body_of (cut front))
told_by front ended None end = tt
told_by front true (Some bytes) end = refl
told_by front false (Some bytes) end = by (is_short (cut front)) refl
  where
    by : (b : Bool) → is_short (cut front) ≡ b → body_of (cut (front ++ bytes)) ≡ body_of (cut front)
    by true e = absurd (false≢true (end e))
    by false e = ap body_of (cut-append front bytes e) ∙ body_of-grown (cut front) bytes

told : (old mid : Reading) (left left' : Option (List ℕ)) → Finds old mid left left' → (is_short (cut mid.front) ≡ true → mid.ended ≡ true)
    → IfSome (ahead old left) (λ text. body_of (cut text) ≡ body_of (cut mid.front))
told old mid left left' found end =
    rw (← ahead-kept old mid left left' found) (told_by mid.front mid.ended left' end)

pub told_as : (old mid : Reading) (left left' : Option (List ℕ)) (r : Result (Option (List ℕ)) FrameError) → Finds old mid left left'
    → (is_short (cut mid.front) ≡ true → mid.ended ≡ true) → body_of (cut mid.front) ≡ r
    → IfSome (ahead old left) (λ text. body_of (cut text) ≡ r)
told_as old mid left left' r found end is = rw (← is) (told old mid left left' found end)

-- where the body was found, or nothing was
abbrev pub IsFound : Option Place → Reading → Type 0
IsFound found mid = MatchOption found ((mid.front ≡ []) × (mid.ended ≡ true)) (λ place. IsBodyAt place mid.front)

pub settled_at : (found : Option Place) (mid : Reading) → IsFound found mid → is_short (cut mid.front) ≡ true → mid.ended ≡ true
settled_at None mid is short = is.1
settled_at (Some place) mid is short = absurd (false≢true (sym (ap is_short (cut-body_at mid.front place is)) ∙ short))

pub body_found : (found : Option Place) (mid : Reading) → IsFound found mid → body_of (cut mid.front) ≡ Ok (body_at found mid.front)
body_found None mid is = ap (λ front. body_of (cut front)) is.0
body_found (Some place) mid is = ap body_of (cut-body_at mid.front place is)

pub body_short : (found : Option Place) (mid : Reading) (next : Option (List ℕ)) → IsFound found mid → next ≡ body_at found mid.front
    → IfSome next (λ body. length body ≤ body_max)
body_short None mid next is e = rw e tt
body_short (Some place) mid next is e = rw e (omega (arith, is.most, length-take (place.to - place.from) (drop place.from mid.front)))

rest_by : (front body rest : List ℕ) (ended : Bool) (left : Option (List ℕ)) → cut front ≡ Frame body rest
    → ahead (record { front = rest; ended = ended }) left ≡ option_map (λ text. rest_of (cut text)) (ahead (record { front = front; ended = ended }) left)
rest_by front body rest ended None is = refl
rest_by front body rest true (Some bytes) is = ap (λ c. Some (rest_of c)) (sym is)
rest_by front body rest false (Some bytes) is =
    ap (λ c. Some (rest_of c)) (sym (cut-append front bytes (ap is_short is) ∙ ap (λ c. grown c bytes) is))

none_by : (front : List ℕ) (ended : Bool) (left : Option (List ℕ)) → front ≡ [] → ended ≡ true
    → ahead (record { front = front; ended = ended }) left ≡ option_map (λ text. rest_of (cut text)) (ahead (record { front = front; ended = ended }) left)
none_by front ended None nothing end = refl
none_by front ended (Some bytes) nothing end = rw (nothing, end) refl

pub after_frame : (old mid : Reading) (found : Option Place) (rest : List ℕ) (left left' next : Option (List ℕ)) → Finds old mid left left'
    → IsFound found mid → next ≡ body_at found mid.front → rest ≡ behind found mid.front
    → AfterFrame old (record { front = rest; ended = mid.ended }) left left' next
after_frame old mid None rest left left' next found is e after = rw (e, after) (record {
  rest = none_by mid.front mid.ended left' is.0 is.1 ∙ ap (λ known. option_map (λ text. rest_of (cut text)) known) (ahead-kept old mid left left' found);
  kept = found.kept;
  none = λ _. is;
  at_end = at_end_of old mid left left' found;
})
after_frame old mid (Some place) rest left left' next found is e after = rw (e, after) (record {
  rest = rest_by mid.front (take (place.to - place.from) (drop place.from mid.front)) (drop place.to mid.front) mid.ended left' (cut-body_at mid.front place is)
      ∙ ap (λ known. option_map (λ text. rest_of (cut text)) known) (ahead-kept old mid left left' found);
  kept = (
    take place.to mid.front,
    cut-frame mid.front place is,
    ap (λ bytes. prepend_known bytes left') (take-append-drop place.to mid.front) ∙ found.kept,
  );
  none = λ none. absurd (none-some _ (sym none));
  at_end = at_end_of old mid left left' found;
})

pub after_error : (old mid : Reading) (left left' : Option (List ℕ)) (error : FrameError) → Finds old mid left left' → IsWhy error mid
    → AfterFrameError old mid left left' error
after_error old mid left left' error found why = record {
  kept = found.kept;
  at_end = at_end_of old mid left left' found;
  fault = λ is. let here = rw is at why in here;
  memory = λ is. let here = rw is at why in here;
  broken = λ is. let here = rw is at why in (here.0, λ un. here.1 (ap is_short un));
  too_long = λ is. let here = rw is at why in here;
}

-- what an error that was answered says of the text ahead
pub broken_ahead : (old mid : Reading) (left left' : Option (List ℕ)) (error : FrameError) → Finds old mid left left' → IsWhy error mid → error ≡ Broken
    → IfSome (ahead old left) (λ text. body_of (cut text) ≡ Err Broken)
broken_ahead old mid left left' error found why is = let here = rw is at why in told_as old mid left left' (Err Broken) found here.1 here.0

pub long_ahead : (old mid : Reading) (left left' : Option (List ℕ)) (error : FrameError) → Finds old mid left left' → IsWhy error mid → error ≡ TooLong
    → IfSome (ahead old left) (λ text. body_of (cut text) ≡ Err TooLong)
long_ahead old mid left left' error found why is =
    let here = rw is at why in
    told_as old mid left left' (Err TooLong) found (λ short. absurd (false≢true (sym (ap is_short here) ∙ short))) (ap body_of here)
