-- How far the lines that were answered reach in the input.
use Rattle.std.proofs.Common.{◌≡◌, ◌⊎◌, inl, inr, ℕ, ◌+◌, ◌<◌, ◌≤◌, Bool, true, false, true≢false, IsTrue, List, [], ◌∷◌, ◌++◌, length, Option, Some, None, IfSome, option_map, option_to_list, refl, sym, ap, subst, ◌∙◌, arith, append_assoc, append-nil, length-append}
use Rattle.std.proofs.lemmas.List.{take_all, drop_all}
use Rattle.std.proofs.lemmas.Option.{none-some, same_Some, IfSome_then}
use Rattle.std.proofs.lemmas.Bool.{cases_lt}
use Rattle.std.specs.List.{AllByRecursion, list_any}
use Rattle.std.specs.Io.KnownBytes.{prepend_known, IsAtEnd}
use Rattle.nav_io.specs.Lines.{line_max, line_len, first_line, after_line, line_at_front, lines, whole_lines, HasNoNewline, ended_lines}
use Rattle.nav_io.specs.Reading.{Reading, ahead, AfterLine}
use Rattle.nav_io.proofs.Cuts.{prepend_known-append}
use Rattle.nav_io.proofs.CutLaws.{first_line-newline-after_line}
use Rattle.nav_io.proofs.CallerLemmas.{whole_lines-line, whole_lines-ended_lines, ended_lines-append}
use Rattle.nav_session.specs.Requests.{is_quit}
use Rattle.nav_session.specs.Serving.{AreFirst, AreTaken, AreAllTaken}
use Rattle.nav_session.specs.Turns.{ReadsLine}
use Rattle.nav_session.specs.UnderWay.{IsNoQuit, IsReached, HasRead}

-- what is ahead of a reader is what is in front of it and in the source
ahead-there_by : (front : List ℕ) (ended : Bool) (left : Option (List ℕ)) → (IsTrue ended → IsAtEnd left)
    → ahead (record { front = front; ended = ended }) left ≡ prepend_known front left
ahead-there_by front ended None at_end = refl
ahead-there_by front false (Some bytes) at_end = refl
ahead-there_by front true (Some bytes) at_end =
    ap Some (sym (append-nil front) ∙ ap (λ ys. front ++ ys) (sym (at_end refl)))

pub ahead-there : (reader : Reading) (left : Option (List ℕ)) → (IsTrue reader.ended → IsAtEnd left)
    → ahead reader left ≡ prepend_known reader.front left
ahead-there reader left at_end = ahead-there_by reader.front reader.ended left at_end

untold_by : (front : List ℕ) (left : Option (List ℕ)) → prepend_known front left ≡ None → left ≡ None
untold_by front None e = refl
untold_by front (Some bytes) e = absurd (none-some _ (sym e))

-- nobody tells bytes that weren't told before
pub untold_stays : (front front' : List ℕ) (left left' : Option (List ℕ)) → prepend_known front' left' ≡ prepend_known front left
    → left ≡ None → left' ≡ None
untold_stays front front' left left' kept none =
    untold_by front' left' (kept ∙ ap (λ known. prepend_known front known) none)

-- the first line of a text ends with a newline, or it is the whole text
front_line : (text line : List ℕ) → Some line ≡ line_at_front text
    → (text ≡ line ++ 10 ∷ after_line text) ⊎ ((after_line text ≡ []) × (text ≡ line))
front_line [] line e = absurd (none-some line (sym e))
front_line (byte ∷ more) line e = by (cases_lt (line_len (byte ∷ more)) (length (byte ∷ more)))
  where
    text : List ℕ
    text = byte ∷ more

    same : line ≡ first_line text
    same = same_Some line (first_line text) e

    by : (line_len text < length text) ⊎ (length text ≤ line_len text) → (text ≡ line ++ 10 ∷ after_line text) ⊎ ((after_line text ≡ []) × (text ≡ line))
    by (inl some) = inl (first_line-newline-after_line text some ∙ ap (λ ys. ys ++ 10 ∷ after_line text) (sym same))
    by (inr none) = inr (drop_all (line_len text + 1) text (omega (arith, none)), sym (same ∙ take_all (line_len text) text none))

-- a line that is the whole text has no newline behind it
not_cut : (text line rest : List ℕ) (left : Option (List ℕ)) → text ≡ line → Some text ≡ prepend_known (line ++ 10 ∷ rest) left → ⊥
not_cut text line rest None same e = none-some text (sym e)
not_cut text line rest (Some bytes) same e =
    let all = same_Some text ((line ++ 10 ∷ rest) ++ bytes) e in
    let sizes = length-append (line ++ 10 ∷ rest) bytes in
    let more = length-append line (10 ∷ rest) in
    let one = ap length same in
    let two = ap length all in
    omega (arith, sizes, more, one, two)

ends_here : (text line : List ℕ) (old new : Reading) (left left' : Option (List ℕ)) → text ≡ line → prepend_known old.front left ≡ Some text
    → (prepend_known old.front left ≡ prepend_known (line ++ 10 ∷ new.front) left') ⊎ IsTrue new.ended → IsTrue new.ended
ends_here text line old new left left' same there (inl cut) = absurd (not_cut text line new.front left' same (sym there ∙ cut))
ends_here text line old new left left' same there (inr ended) = ended

grown : (done : List (List ℕ)) (line rest : List ℕ) → ended_lines done ++ (line ++ 10 ∷ rest) ≡ ended_lines (done ++ line ∷ []) ++ rest
grown done line rest = sym (
    ap (λ bytes. bytes ++ rest) (ended_lines-append done (line ∷ []))
    ∙ append_assoc (ended_lines done) (line ++ 10 ∷ []) rest
    ∙ ap (λ bytes. ended_lines done ++ bytes) (append_assoc line (10 ∷ []) rest)
    )

-- what is ahead behind the line
there_behind : (text : List ℕ) (old new : Reading) (left left' : Option (List ℕ)) → (IsTrue old.ended → IsAtEnd left) → (IsTrue new.ended → IsAtEnd left')
    → prepend_known old.front left ≡ Some text → ahead new left' ≡ option_map after_line (ahead old left)
    → prepend_known new.front left' ≡ Some (after_line text)
there_behind text old new left left' at_end at_end' there rest =
    sym (ahead-there new left' at_end') ∙ rest ∙ ap (λ known. option_map after_line known) (ahead-there old left at_end ∙ there)

-- what a call says of what is ahead
pub of_ahead : (P : List ℕ → Type 0) (text : List ℕ) (reader : Reading) (left : Option (List ℕ)) → (IsTrue reader.ended → IsAtEnd left)
    → prepend_known reader.front left ≡ Some text → IfSome (ahead reader left) P → P text
of_ahead P text reader left at_end there h =
    subst (λ (known : Option (List ℕ)). IfSome known P) (ahead-there reader left at_end ∙ there) h

reached_on : (input line : List ℕ) (done : List (List ℕ)) (old new : Reading) (left left' : Option (List ℕ))
    → (IsTrue old.ended → IsAtEnd left) → (IsTrue new.ended → IsAtEnd left')
    → ReadsLine old new left left' (Some line) → IsReached input done old left → IsReached input (done ++ line ∷ []) new left'
reached_on input line done old new left left' at_end at_end' read reached = record {
  text = after_line text;
  there = there_behind text old new left left' at_end at_end' reached.there read.after.rest;
  others = reached.others ∙ ap (λ (ls : List (List ℕ)). done ++ ls) cut ∙ sym (append_assoc done (line ∷ []) (lines (after_line text)));
  bytes = by reached.bytes (front_line text line front);
}
  where
    text : List ℕ
    text = reached.text

    front : Some line ≡ line_at_front text
    front = of_ahead (λ t. Some line ≡ line_at_front t) text old left at_end reached.there read.line

    cut : lines text ≡ line ∷ lines (after_line text)
    cut = of_ahead (λ t. lines t ≡ option_to_list (Some line) ++ lines (after_line t)) text old left at_end reached.there read.cut

    by : (input ≡ ended_lines done ++ text) ⊎ ((text ≡ []) × IsTrue old.ended)
        → (text ≡ line ++ 10 ∷ after_line text) ⊎ ((after_line text ≡ []) × (text ≡ line))
        → (input ≡ ended_lines (done ++ line ∷ []) ++ after_line text) ⊎ ((after_line text ≡ []) × IsTrue new.ended)
    by (inl whole) (inl newline) = inl (whole ∙ ap (λ bytes. ended_lines done ++ bytes) newline ∙ grown done line (after_line text))
    by (inl whole) (inr last) = inr (last.0, ends_here text line old new left left' last.1 reached.there read.after.ended_by)
    by (inr nothing) cases = absurd (none-some line (sym (front ∙ ap line_at_front nothing.0)))

pub all_more : {A : Type 0} (P : A → Type 0) (xs : List A) (x : A) → AllByRecursion P xs → P x → AllByRecursion P (xs ++ x ∷ [])
all_more P [] x h p = (p, tt)
all_more P (y ∷ xs) x h p = (h.0, all_more P xs x h.1 p)

-- a line more was read
pub read_on : (done : List (List ℕ)) (line : List ℕ) (input : Option (List ℕ)) (old new : Reading) (left left' : Option (List ℕ))
    → ReadsLine old new left left' (Some line) → HasRead done input old left → HasRead (done ++ line ∷ []) input new left'
read_on done line input old new left left' read h =
    let at_end' : IsTrue new.ended → IsAtEnd left' = read.after.at_end h.at_end in
    record {
      no_newline = all_more HasNoNewline done line h.no_newline read.no_newline;
      untold = λ none. untold_by new.front left' (sym (ahead-there new left' at_end') ∙ read.after.rest
          ∙ ap (λ known. option_map after_line (ahead old known)) (h.untold none));
      told = IfSome_then input h.told (λ bytes reached. reached_on bytes line done old new left left' h.at_end at_end' read reached);
      at_end = at_end';
    }

-- nothing was read of a source
pub read_nothing : (left : Option (List ℕ)) → HasRead [] left (record { front = []; ended = false }) left
read_nothing left = record {
  no_newline = tt;
  untold = λ none. none;
  told = by left;
  at_end = λ ended. absurd (true≢false (sym ended));
}
  where
    by : (left : Option (List ℕ)) → IfSome left (λ bytes. IsReached bytes [] (record { front = []; ended = false }) left)
    by None = tt
    by (Some bytes) = record { text = bytes; there = refl; others = refl; bytes = inl refl }

whole_lines-behind : (done : List (List ℕ)) (rest : List ℕ) → AllByRecursion HasNoNewline done
    → whole_lines (ended_lines done ++ rest) ≡ done ++ whole_lines rest
whole_lines-behind [] rest none = refl
whole_lines-behind (line ∷ done) rest none =
    ap whole_lines (append_assoc line (10 ∷ ended_lines done) rest)
    ∙ whole_lines-line line (ended_lines done ++ rest) none.0
    ∙ ap (λ (ls : List (List ℕ)). line ∷ ls) (whole_lines-behind done rest none.1)

all_bytes : (input front : List ℕ) (done : List (List ℕ)) (text : List ℕ) (left : Option (List ℕ)) → prepend_known front left ≡ Some text
    → input ≡ ended_lines done ++ text → Some input ≡ prepend_known (ended_lines done ++ front) left
all_bytes input front done text left there whole =
    ap Some whole ∙ ap (λ known. prepend_known (ended_lines done) known) (sym there) ∙ sym (prepend_known-append (ended_lines done) front left)

nothing_there : (front text : List ℕ) (left : Option (List ℕ)) → prepend_known front left ≡ Some text → text ≡ [] → left ≡ Some []
nothing_there front text None there none = absurd (none-some text there)
nothing_there [] text (Some bytes) there none = there ∙ ap Some none
nothing_there (byte ∷ front) text (Some bytes) there none = absurd (not_empty (same_Some _ _ (there ∙ ap Some none)))
  where
    not_empty : byte ∷ (front ++ bytes) ≡ [] → ⊥
    not_empty e = cc

taken_untold : (done : List (List ℕ)) (left : Option (List ℕ)) → AllByRecursion HasNoNewline done → left ≡ None → AreTaken done None left
taken_untold done left none e = record {
  taken = ended_lines done ++ [];
  split = sym (ap (λ known. prepend_known (ended_lines done ++ []) known) e);
  whole = inl ([], append-nil done ∙ sym (whole_lines-ended_lines done [] none refl));
}

taken_told : (input : List ℕ) (done : List (List ℕ)) (old : Reading) (front : List ℕ) (left left' : Option (List ℕ)) → AllByRecursion HasNoNewline done
    → prepend_known front left' ≡ prepend_known old.front left → IsReached input done old left → AreTaken done (Some input) left'
taken_told input done old front left left' none kept reached = by reached.bytes
  where
    there : prepend_known front left' ≡ Some reached.text
    there = kept ∙ reached.there

    by : (input ≡ ended_lines done ++ reached.text) ⊎ ((reached.text ≡ []) × IsTrue old.ended) → AreTaken done (Some input) left'
    by (inl whole) = record {
      taken = ended_lines done ++ front;
      split = all_bytes input front done reached.text left' there whole;
      whole = inl (whole_lines front, sym (whole_lines-behind done front none));
    }
    by (inr nothing) =
        let end = nothing_there front reached.text left' there nothing.0 in
        record {
          taken = input;
          split = ap Some (sym (append-nil input)) ∙ sym (ap (λ known. prepend_known input known) end);
          whole = inr (subst IsAtEnd (sym end) refl, ([], sym (reached.others ∙ ap (λ (t : List ℕ). done ++ lines t) nothing.0)));
        }

-- the lines are among the bytes that were taken, where no byte is lost
pub taken_of : (done : List (List ℕ)) (input : Option (List ℕ)) (old : Reading) (front : List ℕ) (left left' : Option (List ℕ))
    → prepend_known front left' ≡ prepend_known old.front left → HasRead done input old left → AreTaken done input left'
taken_of done None old front left left' kept h = taken_untold done left' h.no_newline (untold_stays old.front front left left' kept (h.untold refl))
taken_of done (Some input) old front left left' kept h = taken_told input done old front left left' h.no_newline kept h.told

-- so they are without the last one
first_less : (done all : List (List ℕ)) (line : List ℕ) → AreFirst (done ++ line ∷ []) all → AreFirst done all
first_less done all line (more, e) = (line ∷ more, sym (append_assoc done (line ∷ []) more) ∙ e)

pub taken_less : (done : List (List ℕ)) (line : List ℕ) (input left : Option (List ℕ)) → AreTaken (done ++ line ∷ []) input left → AreTaken done input left
taken_less done line input left t = record {
  taken = t.taken;
  split = t.split;
  whole = elim t.whole [
    | inl whole ↦ inl (first_less done (whole_lines t.taken) line whole)
    | inr ended ↦ inr (ended.0, first_less done (lines t.taken) line ended.1)
  ];
}

no_quit_any : (done : List (List ℕ)) → AllByRecursion IsNoQuit done → list_any is_quit done ≡ false
no_quit_any [] h = refl
no_quit_any (line ∷ done) h = rw (h.0, no_quit_any done h.1) refl

-- they are all the whole lines, where no newline is in front and the end wasn't met
pub all_taken_of : (done : List (List ℕ)) (input : Option (List ℕ)) (old : Reading) (front : List ℕ) (left left' : Option (List ℕ))
    → prepend_known front left' ≡ prepend_known old.front left → HasNoNewline front → old.ended ≡ false
    → AllByRecursion IsNoQuit done → HasRead done input old left → AreAllTaken done input left'
all_taken_of done None old front left left' kept none running go h =
    let t = untold_stays old.front front left left' kept (h.untold refl) in
    record {
      taken = ended_lines done ++ [];
      split = sym (ap (λ known. prepend_known (ended_lines done ++ []) known) t);
      whole = sym (whole_lines-ended_lines done [] h.no_newline refl);
      no_quit = no_quit_any done go;
    }
all_taken_of done (Some input) old front left left' kept none running go h = by h.told.bytes
  where
    by : (input ≡ ended_lines done ++ h.told.text) ⊎ ((h.told.text ≡ []) × IsTrue old.ended) → AreAllTaken done (Some input) left'
    by (inl whole) = record {
      taken = ended_lines done ++ front;
      split = all_bytes input front done h.told.text left' (kept ∙ h.told.there) whole;
      whole = sym (whole_lines-ended_lines done front h.no_newline none);
      no_quit = no_quit_any done go;
    }
    by (inr nothing) = absurd (true≢false (sym nothing.1 ∙ running))

-- what is ahead, where the source tells its bytes
pub reached_text : (input : List ℕ) (done : List (List ℕ)) (reader : Reading) (left : Option (List ℕ)) → HasRead done (Some input) reader left
    → (text : List ℕ) × (prepend_known reader.front left ≡ Some text) × (lines input ≡ done ++ lines text)
reached_text input done reader left h = (h.told.text, h.told.there, h.told.others)
