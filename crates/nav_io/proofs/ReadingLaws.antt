-- What a line reader says of the text ahead, from what it says of the bytes in front.
use Rattle.std.proofs.Common.{◌≡◌, ℕ, ◌<◌, ◌≤◌, ◌⊎◌, inl, inr, List, [], ◌∷◌, ◌++◌, length, refl, sym, ap, ◌∙◌, arith, Option, Some, None, Bool, true, false, IsTrue}
use Rattle.std.proofs.lemmas.List.{append-nil}
use Rattle.std.proofs.lemmas.Bool.{cases_lt, false≢true}
use Rattle.std.proofs.lemmas.Option.{none-some}
use Rattle.std.specs.Option.{IfSome, option_map, option_to_list}
use Rattle.std.specs.Io.KnownBytes.{prepend_known, IsAtEnd}
use Rattle.nav_io.specs.declared.lines.LineError.{LineError}
use Rattle.nav_io.specs.declared.lines.LineError.TheVariants.{ReadFault, NoMemory, TooLong}
use Rattle.nav_io.specs.Lines.{line_max, line_len, after_line, line_at_front, lines}
use Rattle.nav_io.specs.Reading.{Reading, ahead, AfterLine, AfterError}
pub use Rattle.nav_io.specs.Reading.{Finds}
use Rattle.nav_io.proofs.Cuts.{line_len-le, line_len-append-le}
use Rattle.nav_io.proofs.CutLaws.{line_at_front-append, after_line-append, lines-cut, first_line-newline-after_line}

ahead-kept_by : (front front' : List ℕ) (ended ended' : Bool) (left left' : Option (List ℕ)) →
    prepend_known front' left' ≡ prepend_known front left →
    (ended ≡ true → (front' ≡ front) × (left' ≡ left) × (ended' ≡ true)) →
    (ended' ≡ true → (ended ≡ true) ⊎ IsAtEnd left') →
    ahead (record { front = front'; ended = ended' }) left' ≡ ahead (record { front = front; ended = ended }) left
ahead-kept_by front front' true ended' left left' kept past at = let p = past refl in rw (p.0, p.1, p.2) refl
ahead-kept_by front front' false false left left' kept past at = kept
ahead-kept_by front front' false true left None kept past at = kept
ahead-kept_by front front' false true left (Some bytes) kept past at = elim (at refl) [
  | inl e ↦ absurd (false≢true e)
  | inr nothing ↦ ap Some (sym (append-nil front') ∙ ap (λ ys. front' ++ ys) (sym nothing)) ∙ kept
]

pub ahead-kept : (old mid : Reading) (left left' : Option (List ℕ)) → Finds old mid left left' → ahead mid left' ≡ ahead old left
ahead-kept old mid left left' found = ahead-kept_by old.front mid.front old.ended mid.ended left left' found.kept found.past_end found.at_end

-- the first line in front is that of the text ahead, since a newline ends it or the end was met
line_at_front-ahead_by : (front : List ℕ) (ended : Bool) (left : Option (List ℕ)) (line : Option (List ℕ)) →
    (line_len front ≡ length front → ended ≡ true) → line ≡ line_at_front front →
    IfSome (ahead (record { front = front; ended = ended }) left) (λ text. line ≡ line_at_front text)
line_at_front-ahead_by front ended None line end is = tt
line_at_front-ahead_by front true (Some bytes) line end is = is
line_at_front-ahead_by front false (Some bytes) line end is =
    is ∙ sym (line_at_front-append front bytes (λ e. absurd (false≢true (end e))))

after_line-ahead_by : (front rest : List ℕ) (ended : Bool) (left : Option (List ℕ)) →
    (line_len front ≡ length front → ended ≡ true) → rest ≡ after_line front →
    ahead (record { front = rest; ended = ended }) left ≡ option_map after_line (ahead (record { front = front; ended = ended }) left)
after_line-ahead_by front rest ended None end is = refl
after_line-ahead_by front rest true (Some bytes) end is = ap Some is
after_line-ahead_by front rest false (Some bytes) end is =
    ap Some (ap (λ ys. ys ++ bytes) is ∙ sym (after_line-append front bytes (λ e. absurd (false≢true (end e)))))

line_len-ahead_by : (front : List ℕ) (ended : Bool) (left : Option (List ℕ)) (n : ℕ) → n < line_len front →
    IfSome (ahead (record { front = front; ended = ended }) left) (λ text. n < line_len text)
line_len-ahead_by front ended None n far = tt
line_len-ahead_by front true (Some bytes) n far = far
line_len-ahead_by front false (Some bytes) n far = omega (arith, line_len-append-le front bytes)

pub line_at_front-ahead : (old mid : Reading) (left left' line : Option (List ℕ)) → Finds old mid left left' →
    (line_len mid.front ≡ length mid.front → mid.ended ≡ true) → line ≡ line_at_front mid.front →
    IfSome (ahead old left) (λ text. line ≡ line_at_front text)
line_at_front-ahead old mid left left' line found end is =
    rw (← ahead-kept old mid left left' found) (line_at_front-ahead_by mid.front mid.ended left' line end is)

pub lines-known : (text line : Option (List ℕ)) → IfSome text (λ whole. line ≡ line_at_front whole) →
    IfSome text (λ whole. lines whole ≡ option_to_list line ++ lines (after_line whole))
lines-known None line is = tt
lines-known (Some whole) line is = rw is (lines-cut whole)

pub line_len-ahead : (old mid : Reading) (left left' : Option (List ℕ)) (n : ℕ) → Finds old mid left left' → n < line_len mid.front →
    IfSome (ahead old left) (λ text. n < line_len text)
line_len-ahead old mid left left' n found far =
    rw (← ahead-kept old mid left left' found) (line_len-ahead_by mid.front mid.ended left' n far)

ended_by_of : (old : List ℕ) (front rest : List ℕ) (ended : Bool) (left left' line : Option (List ℕ)) →
    (line_len front < length front) ⊎ (length front ≤ line_len front) →
    prepend_known front left' ≡ prepend_known old left → (line_len front ≡ length front → ended ≡ true) →
    line ≡ line_at_front front → rest ≡ after_line front →
    IfSome line (λ l. (prepend_known old left ≡ prepend_known (l ++ 10 ∷ rest) left') ⊎ IsTrue ended)
ended_by_of old [] rest ended left left' line cases kept end is after = rw is tt
ended_by_of old (byte ∷ more) rest ended left left' line (inl some) kept end is after =
    rw (is, after) (inl (sym kept ∙ ap (λ xs. prepend_known xs left') (first_line-newline-after_line (byte ∷ more) some)))
ended_by_of old (byte ∷ more) rest ended left left' line (inr none) kept end is after =
    let bound = line_len-le (byte ∷ more) in
    rw is (inr (end (omega arith)))

none_of : (front rest : List ℕ) (ended : Bool) (line : Option (List ℕ)) → (line_len front ≡ length front → ended ≡ true) →
    line ≡ line_at_front front → rest ≡ after_line front → line ≡ None → (rest ≡ []) × IsTrue ended
none_of [] rest ended line end is after nothing = (after, end refl)
none_of (byte ∷ more) rest ended line end is after nothing = absurd (none-some _ (sym nothing ∙ is))

pub at_end_of : (old mid : Reading) (left left' : Option (List ℕ)) → Finds old mid left left' →
    (IsTrue old.ended → IsAtEnd left) → IsTrue mid.ended → IsAtEnd left'
at_end_of old mid left left' found before now = elim (found.at_end now) [
  | inl e ↦ rw (found.past_end e).1 (before e)
  | inr nothing ↦ nothing
]

pub after_line_of : (old mid : Reading) (rest : List ℕ) (left left' line : Option (List ℕ)) → Finds old mid left left' →
    (line_len mid.front ≡ length mid.front → mid.ended ≡ true) → line ≡ line_at_front mid.front → rest ≡ after_line mid.front →
    AfterLine old (record { front = rest; ended = mid.ended }) left left' line
after_line_of old mid rest left left' line found end is after = record {
  rest = after_line-ahead_by mid.front rest mid.ended left' end after ∙ ap (λ text. option_map after_line text) (ahead-kept old mid left left' found);
  none = none_of mid.front rest mid.ended line end is after;
  at_end = at_end_of old mid left left' found;
  ended_by = ended_by_of old.front mid.front rest mid.ended left left' line (cases_lt (line_len mid.front) (length mid.front)) found.kept end is after;
}

pub after_error_of : (old mid : Reading) (left left' : Option (List ℕ)) (error : LineError) → Finds old mid left left' → mid.ended ≡ old.ended →
    (error ≡ ReadFault → (old.ended ≡ false) × (line_len mid.front ≡ length mid.front)) → (error ≡ TooLong → line_max < line_len mid.front) →
    (error ≡ NoMemory → (old.ended ≡ false) × (line_len mid.front ≡ length mid.front) × (length mid.front ≤ line_max)) →
    AfterError old mid left left' error
after_error_of old mid left left' error found same fault long memory = record {
  kept = found.kept;
  same_end = same;
  at_end = at_end_of old mid left left' found;
  fault = λ e. ((fault e).1, same ∙ (fault e).0);
  memory = λ e. ((memory e).1, same ∙ (memory e).0, (memory e).2);
  too_long = long;
}
