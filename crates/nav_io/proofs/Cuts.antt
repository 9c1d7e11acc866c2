-- How a text that grows or shrinks is cut into lines.
use Rattle.std.proofs.Common.{◌≡◌, ℕ, ◌+◌, ◌-◌, ◌<◌, ◌≤◌, List, ◌++◌, length, take, drop, refl, sym, ap, ◌∙◌, arith, length-drop, length-append, Option, Some, None, Bool, true, false, cond, not, append_assoc, ◌⊎◌, inl, inr, [], ◌∷◌, zero, suc}
use Rattle.std.proofs.lemmas.List.{take_all, drop-drop}
use Rattle.std.proofs.lemmas.List.Sums.{prefix_len-le-length}
use Rattle.std.proofs.lemmas.List.Folds.{prefix_len-append}
use Rattle.std.proofs.lemmas.Bool.{ltb-true, ltb-false, eq-eqb, eqb-true, false_from_ne_true, cases_lt}
use Rattle.std.proofs.Math.Dec.{ltb, eqb}
use Rattle.std.proofs.Math.Seq.{drop-append_seam}
use Rattle.std.specs.Io.KnownBytes.{prepend_known}
use Rattle.std.specs.List.{position}
use Rattle.nav_io.specs.Lines.{is_newline, line_len}
use Rattle.nav_io.specs.Search.{FindsNewline}

-- a range up to the end of a list
pub take-drop_rest : (n : ℕ) (xs : List ℕ) → take (length xs - n) (drop n xs) ≡ drop n xs
take-drop_rest n xs = take_all (length xs - n) (drop n xs) (omega (arith, length-drop n xs))

pub line_len-le : (xs : List ℕ) → line_len xs ≤ length xs
line_len-le xs = prefix_len-le-length _ xs

-- a line that begins within a list ends within it
pub line_len-drop-le : (n : ℕ) (xs : List ℕ) → n ≤ length xs → n + line_len (drop n xs) ≤ length xs
line_len-drop-le n xs within = omega (arith, line_len-le (drop n xs), length-drop n xs)

finds : (t : Bool) (found : Option ℕ) (xs : List ℕ) →
    ltb (line_len xs) (length xs) ≡ t → found ≡ cond t (Some (line_len xs)) None → FindsNewline found xs
finds true found xs h e = rw e (refl, ltb-true _ _ h)
finds false found xs h e =
    let within : length xs ≤ line_len xs = ltb-false _ _ h in
    let bound = line_len-le xs in
    let same : line_len xs ≡ length xs = omega arith in
    rw e same

pub FindsNewline-position : (found : Option ℕ) (n : ℕ) (xs : List ℕ) →
    found ≡ position is_newline (take (length xs - n) (drop n xs)) → FindsNewline found (drop n xs)
FindsNewline-position found n xs e =
    finds (ltb (line_len (drop n xs)) (length (drop n xs))) found (drop n xs) refl (rw take-drop_rest at e)

pub ruleset line_ends = (FindsNewline-position)

-- where no newline stands in the first part, the line goes on into the second
pub line_len-append_without : (xs ys : List ℕ) → line_len xs ≡ length xs → line_len (xs ++ ys) ≡ length xs + line_len ys
line_len-append_without xs ys h =
    let same : eqb (line_len xs) (length xs) ≡ true = eq-eqb _ _ h in
    prefix_len-append (λ x. not (is_newline x)) xs ys ∙ ap (λ t. cond t (length xs + line_len ys) (line_len xs)) same

-- a newline in the first part ends the line
pub line_len-append_with : (xs ys : List ℕ) → line_len xs < length xs → line_len (xs ++ ys) ≡ line_len xs
line_len-append_with xs ys h =
    let apart : eqb (line_len xs) (length xs) ≡ false = false_from_ne_true _ (λ e. absurd (omega (arith, eqb-true _ _ e))) in
    prefix_len-append (λ x. not (is_newline x)) xs ys ∙ ap (λ t. cond t (length xs + line_len ys) (line_len xs)) apart

line_len-append-le_by : (xs ys : List ℕ) → (line_len xs < length xs) ⊎ (length xs ≤ line_len xs) → line_len xs ≤ line_len (xs ++ ys)
line_len-append-le_by xs ys (inl some) = omega (arith, line_len-append_with xs ys some)
line_len-append-le_by xs ys (inr none) =
    let bound = line_len-le xs in
    omega (arith, line_len-append_without xs ys (omega arith))

pub line_len-append-le : (xs ys : List ℕ) → line_len xs ≤ line_len (xs ++ ys)
line_len-append-le xs ys = line_len-append-le_by xs ys (cases_lt (line_len xs) (length xs))

-- where the end of a list is searched alone: the place of the newline in the whole
pub line_len-behind : (xs ys zs : List ℕ) (from n : ℕ) → from ≡ length xs → zs ≡ xs ++ ys → line_len xs ≡ length xs →
    line_len (drop from zs) ≡ n → line_len zs ≡ from + n
line_len-behind xs ys zs from n at_end e h found =
    let part : drop from zs ≡ ys = rw (at_end, e) (drop-append_seam xs ys) in
    let there : line_len ys ≡ n = ap line_len (sym part) ∙ found in
    let whole : line_len zs ≡ length xs + line_len ys = ap line_len e ∙ line_len-append_without xs ys h in
    omega arith

-- the same where it has none
pub line_len-behind_none : (xs ys zs : List ℕ) (from : ℕ) → from ≡ length xs → zs ≡ xs ++ ys → line_len xs ≡ length xs →
    line_len (drop from zs) ≡ length (drop from zs) → line_len zs ≡ length zs
line_len-behind_none xs ys zs from at_end e h none =
    let far = line_len-behind xs ys zs from _ at_end e h none in
    let all = ap length e ∙ length-append xs ys in
    let part : drop from zs ≡ ys = rw (at_end, e) (drop-append_seam xs ys) in
    let size : length (drop from zs) ≡ length ys = ap length part in
    omega arith

pub prepend_known-append : (xs ys : List ℕ) (known : Option (List ℕ)) → prepend_known (xs ++ ys) known ≡ prepend_known xs (prepend_known ys known)
prepend_known-append xs ys None = refl
prepend_known-append xs ys (Some bytes) = ap Some (append_assoc xs ys bytes)

-- bytes that go from the source to the reader are lost to neither
pub prepend_known-moved : (xs ys zs : List ℕ) (old new : Option (List ℕ)) → zs ≡ xs ++ ys → old ≡ prepend_known ys new →
    prepend_known zs new ≡ prepend_known xs old
prepend_known-moved xs ys zs old new e moved =
    ap (λ bytes. prepend_known bytes new) e ∙ prepend_known-append xs ys new ∙ ap (λ known. prepend_known xs known) (sym moved)

line_len-drop_by : (k x : ℕ) (xs : List ℕ) (t : Bool) → is_newline x ≡ t →
    (k ≤ line_len xs → line_len xs ≡ k + line_len (drop k xs)) → suc k ≤ line_len (x ∷ xs) →
    line_len (x ∷ xs) ≡ suc k + line_len (drop k xs)
line_len-drop_by k x xs true e more h =
    let none : line_len (x ∷ xs) ≡ 0 = ap (λ t. cond (not t) (1 + line_len xs) 0) e in
    absurd (omega (arith, h, none))
line_len-drop_by k x xs false e more h =
    let one : line_len (x ∷ xs) ≡ 1 + line_len xs = ap (λ t. cond (not t) (1 + line_len xs) 0) e in
    let rest = more (omega (arith, h, one)) in
    omega (arith, one, rest)

-- bytes of the first line may be left out of the search for its end
pub line_len-drop : (k : ℕ) (xs : List ℕ) → k ≤ line_len xs → line_len xs ≡ k + line_len (drop k xs)
line_len-drop zero xs h = omega arith
line_len-drop (suc k) [] h = absurd (omega (arith, h))
line_len-drop (suc k) (x ∷ xs) h = line_len-drop_by k x xs (is_newline x) refl (line_len-drop k xs) h

-- the end of the first line from a place on, where the search began behind some of its bytes
pub line_len-searched : (searched from n : ℕ) (xs : List ℕ) → searched ≤ line_len (drop from xs) →
    line_len (drop (from + searched) xs) ≡ n → line_len (drop from xs) ≡ searched + n
line_len-searched searched from n xs h e =
    let far = line_len-drop searched (drop from xs) h in
    let same : line_len (drop searched (drop from xs)) ≡ line_len (drop (from + searched) xs) = ap line_len (drop-drop searched from xs) in
    omega (arith, far, same, e)

-- the search may begin there
pub searched-within : (searched from : ℕ) (xs : List ℕ) → from ≤ length xs → searched ≤ line_len (drop from xs) → from + searched ≤ length xs
searched-within searched from xs within h = omega (arith, h, line_len-drop-le from xs within)

-- bytes that come behind make no line shorter
pub searched-grows : (searched : ℕ) (old more new : List ℕ) → searched ≤ line_len old → new ≡ old ++ more → searched ≤ line_len new
searched-grows searched old more new h e = rw e (omega (arith, h, line_len-append-le old more))
