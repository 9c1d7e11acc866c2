-- What a filter keeps of a list from a place on, and elements that stand side by side and are all that it keeps.
use Rattle.std.proofs.Common.{◌≡◌, refl, sym, ◌∙◌, ap, ℕ, zero, suc, ◌+◌, ◌-◌, ◌<◌, ◌≤◌, inl, inr, List, [], ◌∷◌, ◌++◌, append-nil, length, take, drop, get_or, Bool, true, false, cond, arith, min}
use Rattle.std.specs.Prelude.{filter}
use Rattle.std.specs.List.{AllWithin}
use Rattle.std.proofs.lemmas.Bool.{cases_lt}
use Rattle.std.proofs.lemmas.List.{length-take, length-drop, length-append, get_or-take, get_or-drop, take-append-drop, drop-drop, drop_all}
use Rattle.std.proofs.lemmas.List.Elements.{filter-append, filter_passes}
use Rattle.partial_path.proofs.Asking.{kept_here}

-- all of the elements pass
pub filter_each : {X : Type 0} (q : X → Bool) (xs : List X) → ((k : ℕ) (d : X) → k < length xs → q (get_or xs k d) ≡ true) → filter q xs ≡ xs
filter_each q [] all = refl
filter_each q (x ∷ xs) all =
    ap (λ b. cond b (x ∷ filter q xs) (filter q xs)) (all zero x (omega arith)) ∙ ap (λ ys. x ∷ ys) (filter_each q xs (λ k d h. all (suc k) d (omega arith)))

-- those from one place on and before another fail
pub skip_none : {X : Type 0} (p : X → Bool) (xs : List X) (a b : ℕ) → a ≤ b → b ≤ length xs → AllWithin (λ x. p x ≡ false) xs a b → filter p (drop a xs) ≡ filter p (drop b xs)
skip_none p [] a b le within none = let same : a ≡ b = omega (arith, le, within) in ap (λ n. filter p (drop n [])) same
skip_none p (x ∷ xs) zero zero le within none = refl
skip_none p (x ∷ xs) zero (suc b) le within none =
    ap (λ t. cond t (x ∷ filter p xs) (filter p xs)) (none zero x (omega arith) (omega arith))
    ∙ skip_none p xs zero b (omega arith) (omega (arith, within)) (λ k d low high. none (suc k) d (omega arith) (omega (arith, high)))
skip_none p (x ∷ xs) (suc a) zero le within none = absurd (omega (arith, le))
skip_none p (x ∷ xs) (suc a) (suc b) le within none =
    skip_none p xs a b (omega (arith, le)) (omega (arith, within)) (λ k d low high. none (suc k) d (omega (arith, low)) (omega (arith, high)))

-- all from a place on fail
pub rest_none : {X : Type 0} (p : X → Bool) (xs : List X) (a : ℕ) → AllWithin (λ x. p x ≡ false) xs a (length xs) → filter p (drop a xs) ≡ []
rest_none p xs a none = elim (cases_lt (length xs) a) [
  | inl past ↦ ap (filter p) (drop_all a xs (omega (arith, past)))
  | inr within ↦ skip_none p xs a (length xs) within (omega arith) none ∙ ap (filter p) (drop_all (length xs) xs (omega arith))
]

-- one passes, and those before it from a place on fail
pub next_kept : {X : Type 0} (p : X → Bool) (xs : List X) (a b : ℕ) (d : X) → a ≤ b → b < length xs → AllWithin (λ x. p x ≡ false) xs a b → p (get_or xs b d) ≡ true
    → filter p (drop a xs) ≡ get_or xs b d ∷ filter p (drop (b + 1) xs)
next_kept p xs a b d le within none is = skip_none p xs a b le (omega (arith, within)) none ∙ kept_here p xs b d within is

-- elements of which those between two places pass, and no others
pub kept_between : {X : Type 0} (q : X → Bool) (xs : List X) (low high : ℕ) → low ≤ high → high ≤ length xs → AllWithin (λ x. q x ≡ false) xs 0 low
    → AllWithin (λ x. q x ≡ true) xs low high → AllWithin (λ x. q x ≡ false) xs high (length xs) → take (high - low) (drop low xs) ≡ filter q xs
kept_between q xs low high le within before inside behind =
    let there : low + (high - low) ≡ high = omega (arith, le) in
    let size : length (take (high - low) (drop low xs)) ≤ high - low
    = (let cut : length (take (high - low) (drop low xs)) ≡ min (high - low) (length (drop low xs)) = length-take (high - low) (drop low xs) in omega (arith, cut)) in
    sym (skip_none q xs 0 low (omega arith) (omega (arith, le, within)) before
    ∙ sym (ap (filter q) (take-append-drop (high - low) (drop low xs)))
    ∙ filter-append q (take (high - low) (drop low xs)) (drop (high - low) (drop low xs))
    ∙ (λ i. filter_each q (take (high - low) (drop low xs)) (λ k d h.
    ap q (get_or-take (high - low) (drop low xs) k d (omega (arith, h, size)) ∙ get_or-drop low xs k d) ∙ inside (low + k) d (omega arith) (omega (arith, h, size, le))) i
    ++ (ap (filter q) (drop-drop (high - low) low xs ∙ ap (λ n. drop n xs) there) ∙ rest_none q xs high behind) i)
    ∙ append-nil (take (high - low) (drop low xs)))

-- nothing is kept: all fail
at_none : {X : Type 0} (q : X → Bool) (x : X) (xs : List X) (b : Bool) → q x ≡ b → length (filter q (x ∷ xs)) ≡ 0 → (k : ℕ) (d : X) → k < length (x ∷ xs)
    → (length (filter q xs) ≡ 0 → (k : ℕ) (d : X) → k < length xs → q (get_or xs k d) ≡ false) → q (get_or (x ∷ xs) k d) ≡ false
at_none q x xs true is e k d h rest =
    let some : suc (length (filter q xs)) ≡ 0 = sym (ap (λ t. length (cond t (x ∷ filter q xs) (filter q xs))) is) ∙ e in
    absurd (omega (arith, some))
at_none q x xs false is e zero d h rest = is
at_none q x xs false is e (suc k) d h rest = rest (sym (ap (λ t. length (cond t (x ∷ filter q xs) (filter q xs))) is) ∙ e) k d (omega (arith, h))

none_in : {X : Type 0} (q : X → Bool) (xs : List X) → length (filter q xs) ≡ 0 → (k : ℕ) (d : X) → k < length xs → q (get_or xs k d) ≡ false
none_in q [] e k d h = absurd (omega (arith, h))
none_in q (x ∷ xs) e k d h = at_none q x xs (q x) refl e k d h (λ f. none_in q xs f)

-- an element of a piece
pub in_piece : {X : Type 0} (xs : List X) (low high k : ℕ) (d : X) → low ≤ k → k < high → get_or (take (high - low) (drop low xs)) (k - low) d ≡ get_or xs k d
in_piece xs low high k d from below =
    let there : low + (k - low) ≡ k = omega (arith, from) in
    get_or-take (high - low) (drop low xs) (k - low) d (omega (arith, from, below)) ∙ get_or-drop low xs (k - low) d ∙ ap (λ n. get_or xs n d) there

-- those that are kept stand side by side
module _ {X : Type 0} (q : X → Bool) (xs : List X) (low high : ℕ) (le : low ≤ high) (within : high ≤ length xs) (run : take (high - low) (drop low xs) ≡ filter q xs) where
  size : length (take (high - low) (drop low xs)) ≡ high - low
  size =
      let rest : length (drop low xs) ≡ length xs - low = length-drop low xs in
      let cut : length (take (high - low) (drop low xs)) ≡ min (high - low) (length (drop low xs)) = length-take (high - low) (drop low xs) in
      omega (arith, rest, cut, le, within)

  kept_size : length (filter q xs) ≡ high - low
  kept_size = sym (ap length run) ∙ size

  pub run_inside : AllWithin (λ x. q x ≡ true) xs low high
  run_inside k d from below =
      sym (ap q (in_piece xs low high k d from below)) ∙ ap (λ ys. q (get_or ys (k - low) d)) run
      ∙ filter_passes q xs (k - low) d (omega (arith, kept_size, from, below))

  piece_kept : filter q (take (high - low) (drop low xs)) ≡ take (high - low) (drop low xs)
  piece_kept = filter_each q (take (high - low) (drop low xs)) (λ k d h.
      ap (λ ys. q (get_or ys k d)) run ∙ filter_passes q xs k d (omega (arith, kept_size, size, h)))

  counted : high - low ≡ length (filter q (take low xs)) + ((high - low) + length (filter q (drop high xs)))
  counted =
      let there : low + (high - low) ≡ high = omega (arith, le) in
      sym kept_size
      ∙ ap (λ ys. length (filter q ys)) (sym (take-append-drop low xs))
      ∙ ap length (filter-append q (take low xs) (drop low xs))
      ∙ length-append (filter q (take low xs)) (filter q (drop low xs))
      ∙ ap (λ n. length (filter q (take low xs)) + n)
      (ap (λ ys. length (filter q ys)) (sym (take-append-drop (high - low) (drop low xs)))
      ∙ ap length (filter-append q (take (high - low) (drop low xs)) (drop (high - low) (drop low xs)))
      ∙ length-append (filter q (take (high - low) (drop low xs))) (filter q (drop (high - low) (drop low xs)))
      ∙ (λ i. (ap length piece_kept ∙ size) i + length (filter q ((drop-drop (high - low) low xs ∙ ap (λ n. drop n xs) there) i))))

  pub run_before : AllWithin (λ x. q x ≡ false) xs 0 low
  run_before k d from below =
      let none : length (filter q (take low xs)) ≡ 0 = omega (arith, counted) in
      let cut : length (take low xs) ≡ min low (length xs) = length-take low xs in
      sym (ap q (get_or-take low xs k d below)) ∙ none_in q (take low xs) none k d (omega (arith, cut, below, le, within))

  pub run_behind : AllWithin (λ x. q x ≡ false) xs high (length xs)
  run_behind k d from below =
      let none : length (filter q (drop high xs)) ≡ 0 = omega (arith, counted) in
      let cut : length (drop high xs) ≡ length xs - high = length-drop high xs in
      let there : high + (k - high) ≡ k = omega (arith, from) in
      sym (ap q (get_or-drop high xs (k - high) d ∙ ap (λ n. get_or xs n d) there))
      ∙ none_in q (drop high xs) none (k - high) d (omega (arith, cut, from, below))
