-- What the first line of a text, and the text after it, are in parts of the text and among its lines.
use Rattle.std.proofs.Common.{◌≡◌, ℕ, ◌+◌, ◌<◌, ◌≤◌, ◌⊎◌, inl, inr, List, [], ◌∷◌, ◌++◌, length, take, drop, refl, sym, ap, ◌∙◌, arith, get_or, add-one, drop-cons, not, cond, suc, Option, Some, Bool, true, false}
use Rattle.std.proofs.lemmas.List.{take_all, take-append-le, drop-append-le, append-nil, drop_all, length-take-le, take-append-drop}
use Rattle.std.proofs.lemmas.List.Sums.{fails_before_first, prefix_len_stops}
use Rattle.std.proofs.lemmas.List.Splits.{slice_split_none, slice_split_first, length-slice_split}
use Rattle.std.proofs.lemmas.Bool.{cases_lt, eqb-true, not-false}
use Rattle.std.specs.Option.{IfSome, option_to_list}
use Rattle.nav_io.specs.Lines.{is_newline, line_len, first_line, after_line, line_at_front, pieces, without_empty_last, lines, HasNoNewline}
use Rattle.nav_io.proofs.Cuts.{line_len-le, line_len-append_with}

-- what stands in front decides the first line, if it has a newline or nothing follows it
line_at_front-append_by : (xs ys : List ℕ) → (line_len xs < length xs) ⊎ (length xs ≤ line_len xs) →
    (line_len xs ≡ length xs → ys ≡ []) → line_at_front (xs ++ ys) ≡ line_at_front xs
line_at_front-append_by xs ys (inr none) end =
    let bound = line_len-le xs in
    let nothing : ys ≡ [] = end (omega arith) in
    rw (nothing, append-nil xs) refl
line_at_front-append_by [] ys (inl some) end = absurd (omega arith)
line_at_front-append_by (x ∷ xs) ys (inl some) end =
    let same = line_len-append_with (x ∷ xs) ys some in
    let bound = line_len-le (x ∷ xs) in
    ap (λ n. Some (take n ((x ∷ xs) ++ ys))) same ∙ ap Some (take-append-le (line_len (x ∷ xs)) (x ∷ xs) ys bound)

pub line_at_front-append : (xs ys : List ℕ) → (line_len xs ≡ length xs → ys ≡ []) → line_at_front (xs ++ ys) ≡ line_at_front xs
line_at_front-append xs ys end = line_at_front-append_by xs ys (cases_lt (line_len xs) (length xs)) end

after_line-append_by : (xs ys : List ℕ) → (line_len xs < length xs) ⊎ (length xs ≤ line_len xs) →
    (line_len xs ≡ length xs → ys ≡ []) → after_line (xs ++ ys) ≡ after_line xs ++ ys
after_line-append_by xs ys (inr none) end =
    let bound = line_len-le xs in
    let nothing : ys ≡ [] = end (omega arith) in
    rw (nothing, append-nil xs, append-nil (after_line xs)) refl
after_line-append_by xs ys (inl some) end =
    let same = line_len-append_with xs ys some in
    let within : line_len xs + 1 ≤ length xs = omega arith in
    ap (λ n. drop (n + 1) (xs ++ ys)) same ∙ drop-append-le (line_len xs + 1) xs ys within

pub after_line-append : (xs ys : List ℕ) → (line_len xs ≡ length xs → ys ≡ []) → after_line (xs ++ ys) ≡ after_line xs ++ ys
after_line-append xs ys end = after_line-append_by xs ys (cases_lt (line_len xs) (length xs)) end

some_piece : (ps : List (List ℕ)) (n : ℕ) → length ps ≡ n + 1 → (piece : List ℕ) × (others : List (List ℕ)) × (ps ≡ piece ∷ others)
some_piece [] n e = absurd (omega arith)
some_piece (piece ∷ others) n e = (piece, others, refl)

-- a text has a piece
pub pieces-some : (xs : List ℕ) → (piece : List ℕ) × (others : List (List ℕ)) × (pieces xs ≡ piece ∷ others)
pieces-some xs = some_piece (pieces xs) _ (length-slice_split is_newline xs)

without_empty_last-more : (piece next : List ℕ) (others : List (List ℕ)) →
    without_empty_last (piece ∷ next ∷ others) ≡ piece ∷ without_empty_last (next ∷ others)
without_empty_last-more [] next others = refl
without_empty_last-more (byte ∷ more) next others = refl

lines-cut_by : (text : List ℕ) → (line_len text < length text) ⊎ (length text ≤ line_len text) →
    lines text ≡ option_to_list (line_at_front text) ++ lines (after_line text)
lines-cut_by [] where' = refl
lines-cut_by (byte ∷ more) (inl some) =
    let front = first_line (byte ∷ more) in
    let others = pieces-some (after_line (byte ∷ more)) in
    ap without_empty_last (slice_split_first is_newline (byte ∷ more) 0 some ∙ ap (λ ps. front ∷ ps) others.2)
    ∙ without_empty_last-more front others.0 others.1
    ∙ ap (λ ps. front ∷ without_empty_last ps) (sym others.2)
lines-cut_by (byte ∷ more) (inr none) =
    let text : List ℕ = byte ∷ more in
    let one : pieces text ≡ text ∷ [] =
    slice_split_none is_newline text (λ k d within. fails_before_first is_newline text k d (omega arith)) in
    let front : first_line text ≡ text = take_all (line_len text) text none in
    let rest : after_line text ≡ [] = drop_all (line_len text + 1) text (omega arith) in
    ap without_empty_last one ∙ ap (λ line. line ∷ []) (sym front) ∙ ap (λ after. first_line text ∷ lines after) (sym rest)

-- the lines of a text are its first line, and then those of what stands after it
pub lines-cut : (text : List ℕ) → lines text ≡ option_to_list (line_at_front text) ++ lines (after_line text)
lines-cut text = lines-cut_by text (cases_lt (line_len text) (length text))

-- a newline ends the first line
pub first_line-newline-after_line : (xs : List ℕ) → line_len xs < length xs → xs ≡ first_line xs ++ 10 ∷ after_line xs
first_line-newline-after_line xs some =
    let stops : not (is_newline (get_or xs (line_len xs) 0)) ≡ false = prefix_len_stops (λ x. not (is_newline x)) xs 0 some in
    let newline : get_or xs (line_len xs) 0 ≡ 10 = eqb-true _ _ (not-false _ stops) in
    let rest : drop (line_len xs) xs ≡ get_or xs (line_len xs) 0 ∷ drop (line_len xs + 1) xs = rw (add-one, drop-cons xs (line_len xs) 0) in
    sym (take-append-drop (line_len xs) xs) ∙ ap (λ ys. first_line xs ++ ys) (rest ∙ ap (λ b. b ∷ after_line xs) newline)

-- the line at the front of a list is as long as that
pub line_at_front-short : (front : List ℕ) (line : Option (List ℕ)) (n : ℕ) →
    line ≡ line_at_front front →
    line_len front ≤ n →
    IfSome line (λ l. length l ≤ n)
line_at_front-short [] line n is short = rw is tt
line_at_front-short (byte ∷ more) line n is short =
    let bound = line_len-le (byte ∷ more) in
    rw is (omega (arith, length-take-le (line_len (byte ∷ more)) (byte ∷ more) bound))

first_line-no_newline_by : (x : ℕ) (xs : List ℕ) (t : Bool) → is_newline x ≡ t → HasNoNewline (first_line xs) → HasNoNewline (first_line (x ∷ xs))
first_line-no_newline_by x xs true e more =
    let none : line_len (x ∷ xs) ≡ 0 = ap (λ t. cond (not t) (1 + line_len xs) 0) e in
    let front : first_line (x ∷ xs) ≡ [] = ap (λ n. take n (x ∷ xs)) none in
    rw front refl
first_line-no_newline_by x xs false e more =
    let ys = first_line xs in
    let one : line_len (x ∷ xs) ≡ 1 + line_len xs = ap (λ t. cond (not t) (1 + line_len xs) 0) e in
    let size : line_len (x ∷ xs) ≡ suc (line_len xs) = omega arith in
    let front : first_line (x ∷ xs) ≡ x ∷ ys = ap (λ n. take n (x ∷ xs)) size in
    let this : line_len (x ∷ ys) ≡ 1 + line_len ys = ap (λ t. cond (not t) (1 + line_len ys) 0) e in
    let all : HasNoNewline (x ∷ ys) = omega (arith, more) in
    rw front all

-- a first line has no newline
pub first_line-no_newline : (xs : List ℕ) → HasNoNewline (first_line xs)
first_line-no_newline [] = refl
first_line-no_newline (x ∷ xs) = first_line-no_newline_by x xs (is_newline x) refl (first_line-no_newline xs)

pub line_at_front-no_newline : (front : List ℕ) (line : Option (List ℕ)) → line ≡ line_at_front front → IfSome line HasNoNewline
line_at_front-no_newline [] line is = rw is tt
line_at_front-no_newline (byte ∷ more) line is = rw is (first_line-no_newline (byte ∷ more))
