-- What the whole line in front and the next bytes are, from what is in front.
use Rattle.std.proofs.Common.{◌≡◌, ℕ, ◌<◌, ◌≤◌, ◌⊎◌, inl, inr, List, [], ◌∷◌, ◌++◌, length, take, drop, refl, sym, ap, ◌∙◌, arith, Option, Some, None, Bool, true, false, IsTrue, if◌then◌else◌, MatchOption, length-take, length-append, append-nil}
use Rattle.std.proofs.lemmas.List.{take-append-le, drop-append-le, take-append-drop}
use Rattle.std.proofs.lemmas.Bool.{cases_lt, false≢true, ltb-true, le-leb, lt-leb}
use Rattle.std.proofs.lemmas.Option.{none-some}
use Rattle.std.specs.Option.{IfSome, option_map, option_to_list}
use Rattle.std.specs.Io.KnownBytes.{prepend_known}
use Rattle.nav_io.specs.Lines.{line_len, after_line, line_at_front, lines}
use Rattle.nav_io.specs.Reading.{Reading, ahead, Finds, is_whole, whole_line, past_whole_line, bytes_at_front, bytes_or_none, AfterBytes}
use Rattle.nav_io.proofs.CutLaws.{lines-cut, first_line-newline-after_line}
use Rattle.nav_io.proofs.ReadingLaws.{ahead-kept, at_end_of}

-- the reader with these bytes in front
abbrev pub reading : List ℕ → Bool → Reading
reading front ended = record { front = front; ended = ended }

pub whole_line-is : (front : List ℕ) (ended : Bool) (line : Option (List ℕ)) → is_whole (reading front ended) ≡ true →
    line ≡ line_at_front front → line ≡ whole_line (reading front ended)
whole_line-is front ended line whole e = e ∙ sym (ap (λ t. if t then line_at_front front else None) whole)

pub past_whole_line-is : (front rest : List ℕ) (ended : Bool) → is_whole (reading front ended) ≡ true →
    rest ≡ after_line front → reading rest ended ≡ past_whole_line (reading front ended)
past_whole_line-is front rest ended whole e =
    ap (λ bytes. reading bytes ended) (e ∙ sym (ap (λ t. if t then after_line front else front) whole))

pub lines-whole : (front : List ℕ) (ended : Bool) (line : Option (List ℕ)) → is_whole (reading front ended) ≡ true →
    line ≡ line_at_front front → lines front ≡ option_to_list line ++ lines (past_whole_line (reading front ended)).front
lines-whole front ended line whole e =
    lines-cut front ∙ ap (λ next. option_to_list next ++ lines (after_line front)) (sym e)
    ∙ ap (λ t. option_to_list line ++ lines (if t then after_line front else front)) (sym whole)

ended_by-newline : (front : List ℕ) (line : Option (List ℕ)) → line_len front < length front → line ≡ line_at_front front →
    IfSome line (λ l. front ≡ l ++ 10 ∷ after_line front)
ended_by-newline [] line some e = absurd (omega (arith, some))
ended_by-newline (byte ∷ more) line some e = rw e (first_line-newline-after_line (byte ∷ more) some)

if_some-left : (line : Option (List ℕ)) (A : List ℕ → Type 0) (B : Type 0) → IfSome line A → IfSome line (λ l. A l ⊎ B)
if_some-left None A B h = tt
if_some-left (Some l) A B h = inl h

if_some-right : (line : Option (List ℕ)) (A : List ℕ → Type 0) (B : Type 0) → B → IfSome line (λ l. A l ⊎ B)
if_some-right None A B h = tt
if_some-right (Some l) A B h = inr h

-- a newline ended the whole line, or the end was met
pub whole-ended_by : (front : List ℕ) (ended : Bool) (line : Option (List ℕ)) → is_whole (reading front ended) ≡ true →
    line ≡ line_at_front front →
    IfSome line (λ l. (front ≡ l ++ 10 ∷ (past_whole_line (reading front ended)).front) ⊎ IsTrue ended)
whole-ended_by front true line whole e =
    if_some-right line (λ l. front ≡ l ++ 10 ∷ (past_whole_line (reading front true)).front) (IsTrue true) refl
whole-ended_by front false line whole e =
    rw whole (if_some-left line (λ l. front ≡ l ++ 10 ∷ after_line front) (IsTrue false) (ended_by-newline front line (ltb-true _ _ whole) e))

-- n bytes are in front, or fewer are
pub bytes-some : (n : ℕ) (front : List ℕ) → n ≤ length front → bytes_at_front n front ≡ Some (take n front)
bytes-some n front enough = rw (le-leb n (length front) enough) refl

pub bytes-none : (n : ℕ) (front : List ℕ) → length front < n → bytes_at_front n front ≡ None
bytes-none n front few = rw (lt-leb n (length front) few) refl

exact_by : (n : ℕ) (front : List ℕ) → (length front < n) ⊎ (n ≤ length front) → IfSome (bytes_at_front n front) (λ bytes. length bytes ≡ n)
exact_by n front (inl few) = rw (bytes-none n front few) tt
exact_by n front (inr enough) = rw (bytes-some n front enough) (omega (arith, length-take n front, enough))

-- they are n
pub bytes-exact : (n : ℕ) (front : List ℕ) (next : Option (List ℕ)) → next ≡ bytes_at_front n front → IfSome next (λ bytes. length bytes ≡ n)
bytes-exact n front next e = rw e (exact_by n front (cases_lt (length front) n))

bytes-append_by : (n : ℕ) (front more : List ℕ) → (length front < n → more ≡ []) → (length front < n) ⊎ (n ≤ length front) →
    bytes_at_front n front ≡ bytes_at_front n (front ++ more)
bytes-append_by n front more end (inl few) = rw (end few, append-nil front) refl
bytes-append_by n front more end (inr enough) =
    bytes-some n front enough ∙ ap Some (sym (take-append-le n front more enough))
    ∙ sym (bytes-some n (front ++ more) (omega (arith, enough, length-append front more)))

bytes-ahead_by : (n : ℕ) (front : List ℕ) (ended : Bool) (left next : Option (List ℕ)) →
    (length front < n → ended ≡ true) → next ≡ bytes_at_front n front →
    IfSome (ahead (reading front ended) left) (λ text. next ≡ bytes_at_front n text)
bytes-ahead_by n front ended None next end e = tt
bytes-ahead_by n front true (Some more) next end e = e
bytes-ahead_by n front false (Some more) next end e =
    e ∙ bytes-append_by n front more (λ few. absurd (false≢true (end few))) (cases_lt (length front) n)

-- the bytes in front are those of the text ahead, since they are enough or the end was met
pub bytes-ahead : (n : ℕ) (old mid : Reading) (left left' next : Option (List ℕ)) → Finds old mid left left' →
    (length mid.front < n → mid.ended ≡ true) → next ≡ bytes_at_front n mid.front →
    IfSome (ahead old left) (λ text. next ≡ bytes_at_front n text)
bytes-ahead n old mid left left' next found end e =
    rw (← ahead-kept old mid left left' found) (bytes-ahead_by n mid.front mid.ended left' next end e)

-- what lending the bytes leaves in front
abbrev pub Lends : ℕ → List ℕ → List ℕ → Option (List ℕ) → Type 0
Lends n front rest next = MatchOption next (rest ≡ front) (λ _. rest ≡ drop n front)

ahead-drop : (n : ℕ) (front : List ℕ) (ended : Bool) (left : Option (List ℕ)) → n ≤ length front →
    ahead (reading (drop n front) ended) left ≡ option_map (drop n) (ahead (reading front ended) left)
ahead-drop n front ended None enough = refl
ahead-drop n front true (Some more) enough = refl
ahead-drop n front false (Some more) enough = ap Some (sym (drop-append-le n front more enough))

after_bytes_by : (n : ℕ) (old mid : Reading) (rest : List ℕ) (left left' : Option (List ℕ)) → Finds old mid left left' →
    (length mid.front < n → mid.ended ≡ true) → (length mid.front < n) ⊎ (n ≤ length mid.front) →
    (next : Option (List ℕ)) → next ≡ bytes_at_front n mid.front → Lends n mid.front rest next →
    AfterBytes n old (reading rest mid.ended) left left' next
after_bytes_by n old mid rest left left' found end (inl few) None e lends = record {
  rest = rw lends (ahead-kept old mid left left' found);
  kept = rw lends found.kept;
  none = λ _. (rw lends few, end few);
  at_end = at_end_of old mid left left' found;
}
after_bytes_by n old mid rest left left' found end (inl few) (Some bytes) e lends = absurd (none-some _ (sym (bytes-none n mid.front few) ∙ sym e))
after_bytes_by n old mid rest left left' found end (inr enough) None e lends = absurd (none-some _ (e ∙ bytes-some n mid.front enough))
after_bytes_by n old mid rest left left' found end (inr enough) (Some bytes) e lends =
    let own : Some bytes ≡ Some (take n mid.front) = e ∙ bytes-some n mid.front enough in
    let whole : bytes_or_none (Some bytes) ++ rest ≡ mid.front =
    ap (λ next. bytes_or_none next ++ rest) own ∙ ap (λ ys. take n mid.front ++ ys) lends ∙ take-append-drop n mid.front in
    record {
      rest = ap (λ bytes. ahead (reading bytes mid.ended) left') lends ∙ ahead-drop n mid.front mid.ended left' enough
          ∙ ap (λ text. option_map (drop n) text) (ahead-kept old mid left left' found);
      kept = ap (λ bytes. prepend_known bytes left') whole ∙ found.kept;
      none = λ none. absurd (none-some _ (sym none));
      at_end = at_end_of old mid left left' found;
    }

pub after_bytes : (n : ℕ) (old mid : Reading) (rest : List ℕ) (left left' next : Option (List ℕ)) → Finds old mid left left' →
    (length mid.front < n → mid.ended ≡ true) → next ≡ bytes_at_front n mid.front → Lends n mid.front rest next →
    AfterBytes n old (reading rest mid.ended) left left' next
after_bytes n old mid rest left left' next found end e lends =
    after_bytes_by n old mid rest left left' found end (cases_lt (length mid.front) n) next e lends
