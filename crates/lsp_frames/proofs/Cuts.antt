-- What stands at the front of an input that goes on.
use Rattle.std.proofs.Common.{◌≡◌, ℕ, ◌+◌, ◌-◌, ◌<◌, ◌≤◌, Bool, true, false, nat_lt, List, [], ◌∷◌, ◌++◌, length, take, drop, Option, None, Some, if◌then◌else◌, refl, sym, ap, ◌∙◌, arith, append-nil, length-append, length-drop, length-take}
use Rattle.std.proofs.lemmas.Bool.{true≢false, ltb-false, lt-ltb, le-ltb}
use Rattle.std.proofs.lemmas.List.{take-append-le, drop-append-le, take-take, drop-drop, drop-take, take_all, drop_all, nil_from_length}
use Rattle.std.proofs.lemmas.Option.{none-some}
use Rattle.lsp_frames.specs.Blocks.{block_max, block_len, stated_length}
use Rattle.lsp_frames.specs.Frames.{body_max, Cut, Nothing, Malformed, Large, Unfinished, Frame, cut, cut_block, cut_stated, cut_body, is_short}
use Rattle.lsp_frames.specs.Inside.{IsBodyAt, IsShortOf}
use Rattle.lsp_frames.specs.declared.front.Place.{Place}
use Rattle.lsp_frames.proofs.Least.{block_len-more, block_len-none, block_len-within, block_len-front}

-- what stands there once more bytes follow, where that is settled
abbrev pub grown : Cut → List ℕ → Cut
grown Nothing ys = Nothing
grown Malformed ys = Malformed
grown Large ys = Large
grown Unfinished ys = Unfinished
grown (Frame body rest) ys = Frame body (rest ++ ys)

cut_body-append : (n : ℕ) (behind ys : List ℕ) → is_short (cut_body n behind) ≡ false → cut_body n (behind ++ ys) ≡ grown (cut_body n behind) ys
cut_body-append n behind ys = by (nat_lt body_max n) (nat_lt (length behind) n) refl
  where
    by : (large few : Bool) → nat_lt (length behind) n ≡ few
        → is_short (if large then Large else (if few then Unfinished else Frame (take n behind) (drop n behind))) ≡ false
        → (if large then Large else (if nat_lt (length (behind ++ ys)) n then Unfinished else Frame (take n (behind ++ ys)) (drop n (behind ++ ys))))
        ≡ grown (if large then Large else (if few then Unfinished else Frame (take n behind) (drop n behind))) ys
    by true few e h = refl
    by false true e h = absurd (true≢false h)
    by false false e h =
        let enough = ltb-false (length behind) n e in
        rw (le-ltb (length (behind ++ ys)) n (omega (arith, enough, length-append behind ys)), take-append-le n behind ys enough, drop-append-le n behind ys enough) refl

cut_stated-append : (o : Option ℕ) (behind ys : List ℕ) → is_short (cut_stated o behind) ≡ false → cut_stated o (behind ++ ys) ≡ grown (cut_stated o behind) ys
cut_stated-append None behind ys h = refl
cut_stated-append (Some n) behind ys h = cut_body-append n behind ys h

cut_block-append : (xs ys : List ℕ) (o : Option ℕ) → block_len xs ≡ o → is_short (cut_block o xs) ≡ false
    → cut_block (block_len (xs ++ ys)) (xs ++ ys) ≡ grown (cut_block o xs) ys
cut_block-append xs ys None e h = by (nat_lt (length xs) block_max) refl h
  where
    by : (few : Bool) → nat_lt (length xs) block_max ≡ few → is_short (if few then Unfinished else Malformed) ≡ false
        → cut_block (block_len (xs ++ ys)) (xs ++ ys) ≡ grown (if few then Unfinished else Malformed) ys
    by true is h = absurd (true≢false h)
    by false is h =
        let many = ltb-false (length xs) block_max is in
        rw (block_len-none xs ys many e, le-ltb (length (xs ++ ys)) block_max (omega (arith, many, length-append xs ys))) refl
cut_block-append xs ys (Some k) e h =
    let within = block_len-within xs k e in
    ap (λ o. cut_block o (xs ++ ys)) (block_len-more xs ys k e)
    ∙ (λ i. cut_stated (stated_length (take-append-le k xs ys within.0 i)) (drop-append-le k xs ys within.0 i))
    ∙ cut_stated-append (stated_length (take k xs)) (drop k xs) ys h

-- what is settled stays
pub cut-append : (xs ys : List ℕ) → is_short (cut xs) ≡ false → cut (xs ++ ys) ≡ grown (cut xs) ys
cut-append [] ys h = absurd (true≢false h)
cut-append (x ∷ xs) ys h = cut_block-append (x ∷ xs) ys (block_len (x ∷ xs)) refl h

-- what stands there by how many bytes the block has
pub cut-some : (xs : List ℕ) (k : ℕ) → block_len xs ≡ Some k → cut xs ≡ cut_stated (stated_length (take k xs)) (drop k xs)
cut-some [] k e = absurd (none-some k e)
cut-some (x ∷ xs) k e = ap (λ o. cut_block o (x ∷ xs)) e

begun : (xs : List ℕ) → block_len xs ≡ None → length xs < block_max → is_short (cut xs) ≡ true
begun [] e h = refl
begun (x ∷ xs) e h = rw (e, lt-ltb (length (x ∷ xs)) block_max h) refl

-- no block has ended
pub front_begun : (xs : List ℕ) → block_len xs ≡ None → length xs < block_max → IsShortOf (length xs + 1) xs
front_begun xs e h = record {
  few = omega arith;
  most = omega (arith, h);
  short = λ more few.
      let none : more ≡ [] = nil_from_length more (omega (arith, few, length-append xs more)) in
      ap (λ ys. is_short (cut (xs ++ ys))) none ∙ ap (λ ys. is_short (cut ys)) (append-nil xs) ∙ begun xs e h;
}

pub front_endless : (xs : List ℕ) → block_len xs ≡ None → block_max ≤ length xs → cut xs ≡ Malformed
front_endless [] e h = absurd (omega (arith, h))
front_endless (x ∷ xs) e h = rw (e, le-ltb (length (x ∷ xs)) block_max h) refl

-- a block that states no length, or too great a one
pub front_wrong : (xs : List ℕ) (k : ℕ) → block_len xs ≡ Some k → stated_length (take k xs) ≡ None → cut xs ≡ Malformed
front_wrong xs k e none = cut-some xs k e ∙ ap (λ o. cut_stated o (drop k xs)) none

pub front_large : (xs : List ℕ) (k n : ℕ) → block_len xs ≡ Some k → stated_length (take k xs) ≡ Some n → body_max < n → cut xs ≡ Large
front_large xs k n e states large = cut-some xs k e ∙ ap (λ o. cut_stated o (drop k xs)) states ∙ rw (lt-ltb body_max n large) refl

pub cut-whole : (xs : List ℕ) (k n : ℕ) → block_len xs ≡ Some k → stated_length (take k xs) ≡ Some n → n ≤ body_max → k + n ≤ length xs
    → cut xs ≡ Frame (take n (drop k xs)) (drop n (drop k xs))
cut-whole xs k n e states most enough =
    cut-some xs k e ∙ ap (λ o. cut_stated o (drop k xs)) states
    ∙ rw (le-ltb body_max n most, le-ltb (length (drop k xs)) n (omega (arith, enough, length-drop k xs))) refl

pub cut-few : (xs : List ℕ) (k n : ℕ) → block_len xs ≡ Some k → stated_length (take k xs) ≡ Some n → n ≤ body_max → length xs < k + n
    → cut xs ≡ Unfinished
cut-few xs k n e states most few =
    let within = block_len-within xs k e in
    cut-some xs k e ∙ ap (λ o. cut_stated o (drop k xs)) states
    ∙ rw (le-ltb body_max n most, lt-ltb (length (drop k xs)) n (omega (arith, few, within, length-drop k xs))) refl

-- a whole body stands there
pub front_whole : (xs : List ℕ) (k n : ℕ) → block_len xs ≡ Some k → stated_length (take k xs) ≡ Some n → n ≤ body_max → k + n ≤ length xs
    → IsBodyAt (record { from = k; to = k + n }) xs
front_whole xs k n e states most enough =
    let same : k + n - k ≡ n = omega arith in
    record {
      block = e;
      order = omega arith;
      states = states ∙ ap Some (sym same);
      most = omega (arith, most);
      within = enough;
    }

-- a whole body doesn't stand there
pub front_few : (xs : List ℕ) (k n : ℕ) → block_len xs ≡ Some k → stated_length (take k xs) ≡ Some n → n ≤ body_max → length xs < k + n
    → IsShortOf (k + n) xs
front_few xs k n e states most few =
    let within = block_len-within xs k e in
    record {
      few = few;
      most = omega (arith, most, within);
      short = λ more still. ap is_short (cut-few (xs ++ more) k n (block_len-more xs more k e) (ap stated_length (take-append-le k xs more within.0) ∙ states) most still);
    }

pub ruleset fronts = (front_begun, front_endless, front_wrong, front_large, front_whole, front_few)

-- the frame of a body that stands there, and the frame alone
pub cut-body_at : (xs : List ℕ) (place : Place) → IsBodyAt place xs
    → cut xs ≡ Frame (take (place.to - place.from) (drop place.from xs)) (drop place.to xs)
cut-body_at xs place is =
    let all : place.from + (place.to - place.from) ≡ place.to = omega (arith, is.order) in
    cut-whole xs place.from (place.to - place.from) is.block is.states is.most (omega (arith, all, is.within))
    ∙ ap (Frame (take (place.to - place.from) (drop place.from xs))) (drop-drop (place.to - place.from) place.from xs ∙ ap (λ n. drop n xs) all)

pub cut-frame : (xs : List ℕ) (place : Place) → IsBodyAt place xs
    → cut (take place.to xs) ≡ Frame (take (place.to - place.from) (drop place.from xs)) []
cut-frame xs place is =
    let n = place.to - place.from in
    let frame = take place.to xs in
    let all : place.from + n ≡ place.to = omega (arith, is.order) in
    let size : length frame ≡ place.to = omega (arith, length-take place.to xs, is.within) in
    let body : drop place.from frame ≡ take n (drop place.from xs) = ap (λ m. drop place.from (take m xs)) (sym all) ∙ drop-take place.from n xs in
    let most : length (take n (drop place.from xs)) ≤ n = omega (arith, length-take n (drop place.from xs)) in
    cut-whole frame place.from n (block_len-front xs place.from place.to is.block is.order is.within)
    (ap stated_length (take-take place.from place.to xs is.order) ∙ is.states) is.most (omega (arith, all, size))
    ∙ (λ i. Frame (take n (body i)) (drop n (body i)))
    ∙ (λ i. Frame (take_all n (take n (drop place.from xs)) most i) (drop_all n (take n (drop place.from xs)) most i))

-- what is short now
pub short-now : (wants : ℕ) (xs : List ℕ) → IsShortOf wants xs → is_short (cut xs) ≡ true
short-now wants xs is = ap (λ ys. is_short (cut ys)) (sym (append-nil xs)) ∙ is.short [] (omega (arith, is.few, ap length (append-nil xs)))
