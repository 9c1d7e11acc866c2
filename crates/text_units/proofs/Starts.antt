-- Each line begins within the text, and is found by its start.
use Rattle.std.proofs.Common.{◌≡◌, ℕ, zero, suc, ◌<◌, ◌≤◌, ◌⊎◌, Bool, true, false, List, [], ◌∷◌, ◌++◌, length, drop, get_or, Some, None, slice_get, if◌then◌else◌, arith, refl, sym, ap, ◌∙◌, inl, inr, append-nil, subst}
use Rattle.std.specs.Option.{option_map}
use Rattle.text_units.specs.Lines.{ends_line, starts_to, line_starts, first_line, line_at}

-- an element of a list with one more at its end
last_cases : (xs : List ℕ) (x k : ℕ) → (get_or (xs ++ x ∷ []) k 0 ≡ get_or xs k 0) ⊎ (get_or (xs ++ x ∷ []) k 0 ≡ x)
last_cases [] x zero = inr refl
last_cases [] x (suc k) = inl refl
last_cases (y ∷ xs) x zero = inl refl
last_cases (y ∷ xs) x (suc k) = last_cases xs x k

-- where a start may have been added
one_more : (t : Bool) (xs : List ℕ) (n k : ℕ) → get_or xs k 0 ≤ n → get_or (xs ++ (if t then suc n ∷ [] else [])) k 0 ≤ suc n
one_more true xs n k within = by (last_cases xs (suc n) k)
  where
    by : (get_or (xs ++ suc n ∷ []) k 0 ≡ get_or xs k 0) ⊎ (get_or (xs ++ suc n ∷ []) k 0 ≡ suc n) → get_or (xs ++ suc n ∷ []) k 0 ≤ suc n
    by (inl here) = omega (arith, within, here)
    by (inr is) = omega (arith, is)
one_more false xs n k within = omega (arith, within, ap (λ (ys : List ℕ). get_or ys k 0) (append-nil xs))

starts_within : (text : List ℕ) (n k : ℕ) → get_or (starts_to text n) k 0 ≤ n
starts_within text zero zero = omega arith
starts_within text zero (suc k) = omega arith
starts_within text (suc n) k = one_more (ends_line text n) (starts_to text n) n k (starts_within text n k)

get_inside : (xs : List ℕ) (k : ℕ) → k < length xs → slice_get xs k ≡ Some (get_or xs k 0)
get_inside [] k h = absurd (omega (arith, h))
get_inside (x ∷ xs) zero h = refl
get_inside (x ∷ xs) (suc k) h = get_inside xs k (omega (arith, h))

get_outside : (xs : List ℕ) (k : ℕ) → length xs ≤ k → slice_get xs k ≡ None
get_outside [] k h = refl
get_outside (x ∷ xs) zero h = absurd (omega (arith, h))
get_outside (x ∷ xs) (suc k) h = get_outside xs k (omega (arith, h))

pub start_within : (text table : List ℕ) (line : ℕ) → table ≡ line_starts text → get_or table line 0 ≤ length text
start_within text table line is = subst (λ (xs : List ℕ). get_or xs line 0 ≤ length text) (sym is) (starts_within text (length text) line)

-- the line of a start
pub line_of : (text table : List ℕ) (line : ℕ) → table ≡ line_starts text → line < length table
    → line_at text line ≡ Some (first_line (drop (get_or table line 0) text))
line_of text table line is h = ap (λ found. option_map (λ start. first_line (drop start text)) found)
    (ap (λ (xs : List ℕ). slice_get xs line) (sym is) ∙ get_inside table line h)

pub no_line : (text table : List ℕ) (line : ℕ) → table ≡ line_starts text → length table ≤ line → line_at text line ≡ None
no_line text table line is h = ap (λ found. option_map (λ start. first_line (drop start text)) found)
    (ap (λ (xs : List ℕ). slice_get xs line) (sym is) ∙ get_outside table line h)
