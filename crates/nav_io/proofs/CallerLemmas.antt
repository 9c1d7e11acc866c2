-- What callers of a line reader need: the bytes that were taken, as lines.
use Rattle.std.proofs.Common.{◌≡◌, ℕ, ◌-◌, List, [], ◌∷◌, ◌++◌, length, take, refl, sym, ap, ◌∙◌, arith, append_assoc, Option, suc, false}
use Rattle.std.proofs.lemmas.List.Sums.{fails_before_first}
use Rattle.std.proofs.lemmas.List.Splits.{slice_split_none, slice_split_at}
use Rattle.std.specs.List.{All, AllByRecursion}
use Rattle.std.specs.Io.KnownBytes.{prepend_known}
use Rattle.nav_io.specs.Lines.{is_newline, pieces, whole_lines, HasNoNewline, ended_lines}
use Rattle.nav_io.proofs.Cuts.{prepend_known-append}
use Rattle.nav_io.proofs.CutLaws.{pieces-some}

no_newline_at : (xs : List ℕ) → HasNoNewline xs → All (λ x. is_newline x ≡ false) xs
no_newline_at xs none = λ k d within. fails_before_first is_newline xs k d (omega (arith, none))

-- a text without a newline has no whole line
pub whole_lines-none : (xs : List ℕ) → HasNoNewline xs → whole_lines xs ≡ []
whole_lines-none xs none = ap (λ ps. take (length ps - 1) ps) (slice_split_none is_newline xs (no_newline_at xs none))

all_but_last-more : (p : List ℕ) (ps : List (List ℕ)) (q : List ℕ) (qs : List (List ℕ)) → ps ≡ q ∷ qs →
    take (length (p ∷ ps) - 1) (p ∷ ps) ≡ p ∷ take (length ps - 1) ps
all_but_last-more p ps q qs e =
    let n : length (p ∷ ps) - 1 ≡ suc (length ps - 1) = omega (arith, ap length e) in
    ap (λ k. take k (p ∷ ps)) n

-- a line and its newline in front are a whole line
pub whole_lines-line : (line rest : List ℕ) → HasNoNewline line → whole_lines (line ++ 10 ∷ rest) ≡ line ∷ whole_lines rest
whole_lines-line line rest none =
    let some = pieces-some rest in
    ap (λ ps. take (length ps - 1) ps) (slice_split_at is_newline line 10 rest (no_newline_at line none) refl)
    ∙ all_but_last-more line (pieces rest) some.0 some.1 some.2

-- lines with their newlines, and then no newline: these are the whole lines
pub whole_lines-ended_lines : (done : List (List ℕ)) (rest : List ℕ) → AllByRecursion HasNoNewline done → HasNoNewline rest →
    whole_lines (ended_lines done ++ rest) ≡ done
whole_lines-ended_lines [] rest all none = whole_lines-none rest none
whole_lines-ended_lines (line ∷ others) rest all none =
    ap whole_lines (append_assoc line (10 ∷ ended_lines others) rest)
    ∙ whole_lines-line line (ended_lines others ++ rest) all.0
    ∙ ap (λ ls. line ∷ ls) (whole_lines-ended_lines others rest all.1 none)

pub ended_lines-append : (done more : List (List ℕ)) → ended_lines (done ++ more) ≡ ended_lines done ++ ended_lines more
ended_lines-append [] more = refl
ended_lines-append (line ∷ others) more =
    ap (λ bytes. line ++ 10 ∷ bytes) (ended_lines-append others more) ∙ sym (append_assoc line (10 ∷ ended_lines others) (ended_lines more))

-- What was taken of a source's first bytes are the lines answered and then what is in front: one line more.
pub taken-goes_on : (done : List (List ℕ)) (line old new : List ℕ) (first left left' : Option (List ℕ)) →
    first ≡ prepend_known (ended_lines done ++ old) left → prepend_known old left ≡ prepend_known (line ++ 10 ∷ new) left' →
    first ≡ prepend_known (ended_lines (done ++ line ∷ []) ++ new) left'
taken-goes_on done line old new first left left' so_far cut =
    let before = ended_lines done in
    let grown : ended_lines (done ++ line ∷ []) ++ new ≡ before ++ (line ++ 10 ∷ new) =
    ap (λ bytes. bytes ++ new) (ended_lines-append done (line ∷ []))
    ∙ append_assoc before (line ++ 10 ∷ []) new
    ∙ ap (λ bytes. before ++ bytes) (append_assoc line (10 ∷ []) new) in
    so_far ∙ prepend_known-append before old left ∙ ap (λ known. prepend_known before known) cut
    ∙ sym (prepend_known-append before (line ++ 10 ∷ new) left')
    ∙ ap (λ bytes. prepend_known bytes left') (sym grown)

-- the same where no line was answered
pub taken-stays : (done : List (List ℕ)) (old new : List ℕ) (first left left' : Option (List ℕ)) →
    first ≡ prepend_known (ended_lines done ++ old) left → prepend_known new left' ≡ prepend_known old left →
    first ≡ prepend_known (ended_lines done ++ new) left'
taken-stays done old new first left left' so_far kept =
    so_far ∙ prepend_known-append (ended_lines done) old left ∙ ap (λ known. prepend_known (ended_lines done) known) (sym kept)
    ∙ sym (prepend_known-append (ended_lines done) new left')
