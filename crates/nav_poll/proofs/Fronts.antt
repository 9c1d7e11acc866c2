-- What the bytes in front of a reader are of the text ahead, where nothing is asked of its source.
use Rattle.std.proofs.Common.{◌≡◌, ◌⊎◌, inl, inr, ℕ, ◌+◌, ◌<◌, ◌≤◌, Bool, true, false, ◌||◌, nat_lt, if◌then◌else◌, IsTrue, List, [], ◌∷◌, ◌++◌, length, take, drop, Option, Some, None, IfSome, Result, Ok, Err, OnOk, OnErr, MatchOption, option_map, option_to_list, refl, sym, ap, subst, ◌∙◌, ◌-◌, arith, length-drop, length-take-le}
use Rattle.std.proofs.lemmas.Bool.{ltb-true, false≢true, cases_lt}
use Rattle.std.proofs.lemmas.Bool.Decides.{nat_tests}
use Rattle.std.proofs.lemmas.Option.{none-some, same_Some}
use Rattle.std.specs.Io.KnownBytes.{prepend_known, IsAtEnd}
use Rattle.nav_io.specs.declared.lines.LineError.TheVariants as line_error
use Rattle.nav_io.specs.Lines.{line_max, line_len, first_line, line_at_front, after_line, lines, HasNoNewline}
use Rattle.nav_io.specs.Reading.{Reading, ahead, is_whole, whole_line, past_whole_line, bytes_at_front, AfterError, AfterBytes}
use Rattle.nav_io.proofs.Cuts.{line_len-le}
use Rattle.nav_io.proofs.CutLaws.{line_at_front-short, line_at_front-no_newline}
use Rattle.nav_io.proofs.ReadingLaws.{Finds, line_at_front-ahead, lines-known, line_len-ahead, after_line_of, after_error_of}
use Rattle.nav_io.proofs.FrontLaws.{bytes-some, bytes-ahead, after_bytes}
use Rattle.nav_session.specs.Turns.{ReadsLine}

-- a reader that is as it was, and its source too
pub stays_found : (r : Reading) (left : Option (List ℕ)) → Finds r r left left
stays_found r left = record { kept = refl; past_end = λ e. (refl, refl, e); at_end = λ e. inl e }

-- a line in front that is answered is whole
whole_by : (b : Bool) (r : Reading) (line : List ℕ) → is_whole r ≡ b → Some line ≡ whole_line r → is_whole r ≡ true
whole_by true r line is e = is
whole_by false r line is e =
    absurd (none-some line (sym (e ∙ ap (λ (t : Bool). if t then line_at_front r.front else None) is)))

ended_by : (ended : Bool) (n m : ℕ) → (ended || nat_lt n m) ≡ true → n ≡ m → ended ≡ true
ended_by true n m whole e = refl
ended_by false n m whole e = let less = ltb-true n m whole in absurd (omega (arith, less, e))

-- The whole line in front is the next line.
pub reads_whole : (r : Reading) (left : Option (List ℕ)) (line : List ℕ) → Some line ≡ whole_line r → line_len r.front ≤ line_max
    → ReadsLine r (past_whole_line r) left left (Some line)
reads_whole r left line e short =
    let is : is_whole r ≡ true = whole_by (is_whole r) r line refl e in
    let end : line_len r.front ≡ length r.front → r.ended ≡ true = ended_by r.ended (line_len r.front) (length r.front) is in
    let first : Some line ≡ line_at_front r.front = e ∙ ap (λ (t : Bool). if t then line_at_front r.front else None) is in
    let rest : (past_whole_line r).front ≡ after_line r.front = ap (λ (t : Bool). if t then after_line r.front else r.front) is in
    let known = line_at_front-ahead r r left left (Some line) (stays_found r left) end first in
    record {
      line = known;
      cut = lines-known (ahead r left) (Some line) known;
      short = line_at_front-short r.front (Some line) line_max first short;
      no_newline = line_at_front-no_newline r.front (Some line) first;
      after = after_line_of r r (past_whole_line r).front left left (Some line) (stays_found r left) end first rest;
    }

-- Behind the end of the input there is no next line where nothing is in front.
pub reads_end : (r : Reading) (left : Option (List ℕ)) → r.ended ≡ true → r.front ≡ [] → ReadsLine r r left left None
reads_end r left ended empty =
    let first : None ≡ line_at_front r.front = sym (ap line_at_front empty) in
    let rest : r.front ≡ after_line r.front = empty ∙ sym (ap after_line empty) in
    let known = line_at_front-ahead r r left left None (stays_found r left) (λ e. ended) first in
    record {
      line = known;
      cut = lines-known (ahead r left) None known;
      short = tt;
      no_newline = tt;
      after = after_line_of r r r.front left left None (stays_found r left) (λ e. ended) first rest;
    }

-- A line that is too long is in front, and so it is ahead.
pub long_ahead : (r : Reading) (left : Option (List ℕ)) → line_max < line_len r.front
    → AfterError r r left left line_error.TooLong × IfSome (ahead r left) (λ text. line_max < line_len text)
long_ahead r left long = (
  after_error_of r r left left line_error.TooLong (stays_found r left) refl (λ e. cc) (λ e. long) (λ e. cc),
  line_len-ahead r r left left line_max (stays_found r left) long,
)

-- A source fails where no line is in front and the end isn't met.
pub fails_here : (r : Reading) (left : Option (List ℕ)) → r.ended ≡ false → HasNoNewline r.front
    → AfterError r r left left line_error.ReadFault
fails_here r left going none = after_error_of r r left left line_error.ReadFault (stays_found r left) refl (λ e. (going, none)) (λ e. cc) (λ e. cc)

-- Where no line is answered none is whole.
no_line_front : (front : List ℕ) → None ≡ line_at_front front → front ≡ []
no_line_front [] e = refl
no_line_front (byte ∷ more) e = absurd (none-some _ e)

pub record HasNone (r : Reading) : Type 0 where
  pub same : past_whole_line r ≡ r
  pub none : HasNoNewline r.front
  pub at_end : r.ended ≡ true → r.front ≡ []

not_less : (n m : ℕ) → n ≤ m → nat_lt n m ≡ false → n ≡ m
not_less n m within e = elim (cases_lt n m) [
  | inl less ↦ absurd (false≢true (sym e ∙ less_is n m less))
  | inr none ↦ omega (arith, within, none)
]
  where
    less_is : (n m : ℕ) → n < m → nat_lt n m ≡ true
    less_is n m h = grind (arith, nat_tests, h)

none_by : (b : Bool) (front : List ℕ) (ended : Bool) → is_whole (record { front = front; ended = ended }) ≡ b
    → None ≡ whole_line (record { front = front; ended = ended }) → HasNone (record { front = front; ended = ended })
none_by true front ended is e =
    let none : front ≡ [] = no_line_front front (e ∙ ap (λ (t : Bool). if t then line_at_front front else None) is) in
    record {
      same = ap (λ (t : Bool). record { front = if t then after_line front else front; ended = ended }) is
          ∙ ap (λ (bytes : List ℕ). record { front = after_line bytes; ended = ended }) none
          ∙ sym (ap (λ (bytes : List ℕ). record { front = bytes; ended = ended }) none);
      none = subst HasNoNewline (sym none) refl;
      at_end = λ _. none;
    }
none_by false front true is e = absurd (false≢true (sym is))
none_by false front false is e = record {
  same = ap (λ (t : Bool). record { front = if t then after_line front else front; ended = false }) is;
  none = not_less (line_len front) (length front) (line_len-le front) is;
  at_end = λ ended. absurd (false≢true ended);
}

pub has_none : (r : Reading) → None ≡ whole_line r → HasNone r
has_none r e = none_by (is_whole r) r.front r.ended refl e

-- The next byte in front.
pub byte_some : (r : Reading) (left : Option (List ℕ)) → 0 < length r.front
    → IfSome (ahead r left) (λ text. Some (take 1 r.front) ≡ bytes_at_front 1 text)
byte_some r left some =
    bytes-ahead 1 r r left left (Some (take 1 r.front)) (stays_found r left) (λ few. absurd (omega (arith, few, some)))
    (sym (bytes-some 1 r.front (omega (arith, some))))

pub after_byte : (r : Reading) (left : Option (List ℕ)) → 0 < length r.front
    → AfterBytes 1 r (record { front = drop 1 r.front; ended = r.ended }) left left (Some (take 1 r.front))
after_byte r left some =
    after_bytes 1 r r (drop 1 r.front) left left (Some (take 1 r.front)) (stays_found r left) (λ few. absurd (omega (arith, few, some)))
    (sym (bytes-some 1 r.front (omega (arith, some)))) refl

-- How many bytes are in front behind the line.
left_by : (front line rest : List ℕ) → Some line ≡ line_at_front front → rest ≡ after_line front → length rest ≡ length front - (length line + 1)
left_by [] line rest e is = absurd (none-some line (sym e))
left_by (byte ∷ more) line rest e is =
    let text : List ℕ = byte ∷ more in
    let size : length line ≡ line_len text = ap length (same_Some line (first_line text) e) ∙ length-take-le (line_len text) text (line_len-le text) in
    let behind : length rest ≡ length text - (line_len text + 1) = ap length is ∙ length-drop (line_len text + 1) text in
    omega (arith, size, behind)

pub front_left : (r : Reading) (line : List ℕ) → Some line ≡ whole_line r → length (past_whole_line r).front ≡ length r.front - (length line + 1)
front_left r line e =
    let is : is_whole r ≡ true = whole_by (is_whole r) r line refl e in
    left_by r.front line (past_whole_line r).front
    (e ∙ ap (λ (t : Bool). if t then line_at_front r.front else None) is)
    (ap (λ (t : Bool). if t then after_line r.front else r.front) is)

-- none is, where there are no bytes
pub empty_front : (front : List ℕ) → 0 ≡ length front → front ≡ []
empty_front [] e = refl
empty_front (byte ∷ more) e = absurd (omega (arith, e))
