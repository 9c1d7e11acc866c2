-- How far the messages that were read reach in an input, and what is ahead of them.
use Rattle.std.proofs.Common.{◌≡◌, ℕ, Bool, true, false, IsTrue, List, [], ◌∷◌, ◌++◌, Option, Some, None, IfSome, refl, sym, ap, subst, ◌∙◌, append_assoc, append-nil}
use Rattle.std.proofs.lemmas.Option.{none-some, same_Some}
use Rattle.std.proofs.lemmas.Bool.{false≢true}
use Rattle.std.specs.Io.KnownBytes.{prepend_known, IsAtEnd}
use Rattle.nav_io.specs.Reading.{Reading, ahead}
use Rattle.nav_io.proofs.Cuts.{prepend_known-append}
use Rattle.lsp_frames.specs.Frames.{cut, is_short}
use Rattle.lsp_messages.specs.Inputs.{AreFrames, HaveNoExit}
use Rattle.lsp_messages.specs.Reached.{HasRead, AreTaken, AreAllTaken}
use Rattle.lsp_messages.specs.Turns.{ReadsFrame}
use Rattle.lsp_messages.proofs.Behind.{frames-append, frames-more}

-- what is ahead of a reader is what is in front of it and in the source
ahead-there_by : (front : List ℕ) (ended : Bool) (left : Option (List ℕ)) → (IsTrue ended → IsAtEnd left)
    → ahead (record { front = front; ended = ended }) left ≡ prepend_known front left
ahead-there_by front ended None at_end = refl
ahead-there_by front false (Some bytes) at_end = refl
ahead-there_by front true (Some bytes) at_end =
    ap Some (sym (append-nil front) ∙ ap (λ ys. front ++ ys) (sym (at_end refl)))

pub ahead-there : (reader : Reading) (left : Option (List ℕ)) → (IsTrue reader.ended → IsAtEnd left)
    → ahead reader left ≡ prepend_known reader.front left
ahead-there reader left at_end = ahead-there_by reader.front reader.ended left at_end

prepend-nil : (known : Option (List ℕ)) → prepend_known [] known ≡ known
prepend-nil None = refl
prepend-nil (Some bytes) = refl

-- before the first message
pub read_nothing : (input : Option (List ℕ)) → HasRead [] input (record { front = []; ended = false }) input
read_nothing input = record {
  taken = [];
  frames = refl;
  kept = prepend-nil input;
  at_end = λ e. absurd (false≢true e);
}

-- a message more
pub read_on : (done : List (List ℕ)) (bytes : List ℕ) (input : Option (List ℕ)) (old new : Reading) (left left' : Option (List ℕ))
    → ReadsFrame old new left left' (Some bytes) → HasRead done input old left → HasRead (done ++ bytes ∷ []) input new left'
read_on done bytes input old new left left' r h =
    let (frame, is, kept) = r.after.kept in
    record {
      taken = h.taken ++ frame;
      frames = frames-more done (h.taken ++ frame) frame bytes [] (frames-append done h.taken [] frame h.frames) is;
      kept = ap (λ front. prepend_known front left') (append_assoc h.taken frame new.front)
          ∙ prepend_known-append h.taken (frame ++ new.front) left'
          ∙ ap (λ known. prepend_known h.taken known) kept
          ∙ sym (prepend_known-append h.taken old.front left)
          ∙ h.kept;
      at_end = r.after.at_end h.at_end;
    }

-- the bytes that were taken, where others are in front than were
pub taken_of : (done : List (List ℕ)) (input : Option (List ℕ)) (old : Reading) (front : List ℕ) (left left' : Option (List ℕ))
    → prepend_known front left' ≡ prepend_known old.front left → HasRead done input old left → AreTaken done input left'
taken_of done input old front left left' kept h = record {
  taken = h.taken ++ front;
  split = sym (kept_of done input old front left left' kept h);
  rest = front;
  whole = frames-append done h.taken [] front h.frames;
}
  where
    kept_of : (done : List (List ℕ)) (input : Option (List ℕ)) (old : Reading) (front : List ℕ) (left left' : Option (List ℕ))
        → prepend_known front left' ≡ prepend_known old.front left → (h : HasRead done input old left) → prepend_known (h.taken ++ front) left' ≡ input
    kept_of done input old front left left' kept h =
        prepend_known-append h.taken front left' ∙ ap (λ known. prepend_known h.taken known) kept
        ∙ sym (prepend_known-append h.taken old.front left) ∙ h.kept

pub all_taken_of : (done : List (List ℕ)) (input : Option (List ℕ)) (old : Reading) (front : List ℕ) (left left' : Option (List ℕ))
    → prepend_known front left' ≡ prepend_known old.front left → is_short (cut front) ≡ true → HaveNoExit done → HasRead done input old left
    → AreAllTaken done input left'
unfolding taken_of
all_taken_of done input old front left left' kept short go h =
    let t = taken_of done input old front left left' kept h in
    record { taken = t.taken; split = t.split; rest = front; whole = frames-append done h.taken [] front h.frames; no_more = short; no_exit = go }

-- where the source tells its bytes, what is ahead
pub record IsAhead (done : List (List ℕ)) (input : List ℕ) (reader : Reading) (left : Option (List ℕ)) : Type 0 where
  pub text : List ℕ
  pub there : ahead reader left ≡ Some text
  pub frames : AreFrames done input text

ahead_by : (done : List (List ℕ)) (input : List ℕ) (reader : Reading) (left : Option (List ℕ)) → (taken : List ℕ) → AreFrames done taken []
    → (IsTrue reader.ended → IsAtEnd left) → prepend_known (taken ++ reader.front) left ≡ Some input → IsAhead done input reader left
ahead_by done input reader None taken f at_end kept = absurd (none-some input kept)
ahead_by done input reader (Some bytes) taken f at_end kept =
    let all : (taken ++ reader.front) ++ bytes ≡ input = same_Some _ _ kept in
    record {
      text = reader.front ++ bytes;
      there = ahead-there reader (Some bytes) at_end;
      frames = subst (λ (t : List ℕ). AreFrames done t (reader.front ++ bytes)) (sym (append_assoc taken reader.front bytes) ∙ all)
          (frames-append done taken [] (reader.front ++ bytes) f);
    }

pub ahead_of : (done : List (List ℕ)) (input : List ℕ) (reader : Reading) (left : Option (List ℕ)) → HasRead done (Some input) reader left → IsAhead done input reader left
ahead_of done input reader left h = ahead_by done input reader left h.taken h.frames h.at_end h.kept

-- what a call says of what is ahead
pub of_ahead : (P : List ℕ → Type 0) (done : List (List ℕ)) (input : List ℕ) (reader : Reading) (left : Option (List ℕ)) → (a : IsAhead done input reader left)
    → IfSome (ahead reader left) P → P a.text
of_ahead P done input reader left a h = subst (λ (known : Option (List ℕ)). IfSome known P) a.there h
