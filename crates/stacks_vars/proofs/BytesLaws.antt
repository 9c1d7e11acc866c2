-- Texts compared byte by byte: the bytes that are left decide.
use Rattle.std.proofs.Common.{◌≡◌, refl, sym, ◌∙◌, ap, ℕ, zero, suc, ◌+◌, ◌-◌, ◌<◌, ◌≤◌, List, [], ◌∷◌, length, drop, true, false, arith, slice_index, ◌⊎◌, inl, inr}
use Rattle.std.proofs.lemmas.List.{length-drop}
use Rattle.std.specs.Cmp.{nat_cmp_is}
use Rattle.std.proofs.lemmas.Bool.{false≢true}
use Rattle.std.specs.Ordering.{nat_cmp, is_ne, ordering_then}
use Rattle.std.specs.declared.cmp.Ordering.{Ordering}
use Rattle.std.specs.declared.cmp.Ordering.TheVariants.{Less, Equal, Greater}
use Rattle.std.specs.Cmp.Lexicographic.{slice_cmp}

-- the bytes at a place, and then those behind it
step : (a b : List ℕ) (i : ℕ) → i < length a → i < length b
    → slice_cmp nat_cmp (drop i a) (drop i b) ≡ ordering_then (nat_cmp (slice_index a i) (slice_index b i)) (slice_cmp nat_cmp (drop (suc i) a) (drop (suc i) b))
step [] b i h k = absurd (omega (arith, h))
step (x ∷ xs) [] i h k = absurd (omega (arith, k))
step (x ∷ xs) (y ∷ ys) zero h k = refl
step (x ∷ xs) (y ∷ ys) (suc i) h k = step xs ys i (omega (arith, h)) (omega (arith, k))

pub decided_here : (o p : Ordering) → is_ne o ≡ true → ordering_then o p ≡ o
decided_here Less p e = refl
decided_here Equal p e = absurd (false≢true e)
decided_here Greater p e = refl

pub decided_later : (o p : Ordering) → is_ne o ≡ false → ordering_then o p ≡ p
decided_later Less p e = absurd (false≢true (sym e))
decided_later Equal p e = refl
decided_later Greater p e = absurd (false≢true (sym e))

-- bytes that differ decide
pub bytes_differ : (a b : List ℕ) (i : ℕ) (o : Ordering) → i < length a → i < length b → o ≡ nat_cmp (slice_index a i) (slice_index b i) → is_ne o ≡ true
    → slice_cmp nat_cmp a b ≡ slice_cmp nat_cmp (drop i a) (drop i b) → o ≡ slice_cmp nat_cmp a b
bytes_differ a b i o h k is ne left =
    sym (decided_here o (slice_cmp nat_cmp (drop (suc i) a) (drop (suc i) b)) ne)
    ∙ ap (λ p. ordering_then p (slice_cmp nat_cmp (drop (suc i) a) (drop (suc i) b))) is ∙ sym (step a b i h k) ∙ sym left

-- those that don't leave it to the others
pub bytes_alike : (a b : List ℕ) (i : ℕ) (o : Ordering) → i < length a → i < length b → o ≡ nat_cmp (slice_index a i) (slice_index b i) → is_ne o ≡ false
    → slice_cmp nat_cmp a b ≡ slice_cmp nat_cmp (drop i a) (drop i b) → slice_cmp nat_cmp a b ≡ slice_cmp nat_cmp (drop (suc i) a) (drop (suc i) b)
bytes_alike a b i o h k is eq left =
    left ∙ step a b i h k ∙ ap (λ p. ordering_then p (slice_cmp nat_cmp (drop (suc i) a) (drop (suc i) b))) (sym is)
    ∙ decided_later o _ eq

-- where one text has no more bytes, the lengths decide
ends : (xs ys : List ℕ) (n m i : ℕ) (o : Ordering) → n ≡ i + length xs → m ≡ i + length ys → length xs ≡ 0 ⊎ length ys ≡ 0 → o ≡ nat_cmp n m → o ≡ slice_cmp nat_cmp xs ys
ends [] [] n m i o h k e is = is ∙ sym (nat_cmp_is n m Equal (omega (arith, h, k)))
ends [] (y ∷ ys) n m i o h k e is = is ∙ sym (nat_cmp_is n m Less (omega (arith, h, k)))
ends (x ∷ xs) [] n m i o h k e is = is ∙ sym (nat_cmp_is n m Greater (omega (arith, h, k)))
ends (x ∷ xs) (y ∷ ys) n m i o h k e is = absurd (elim e [ inl l ↦ omega (arith, l) | inr l ↦ omega (arith, l) ])

pub bytes_over : (a b : List ℕ) (i : ℕ) (o : Ordering) → i ≤ length a → i ≤ length b → length a ≤ i ⊎ length b ≤ i → o ≡ nat_cmp (length a) (length b)
    → slice_cmp nat_cmp a b ≡ slice_cmp nat_cmp (drop i a) (drop i b) → o ≡ slice_cmp nat_cmp a b
bytes_over a b i o h k e is left =
    let xs : length (drop i a) ≡ length a - i = length-drop i a in
    let ys : length (drop i b) ≡ length b - i = length-drop i b in
    ends (drop i a) (drop i b) (length a) (length b) i o (omega (arith, xs, h)) (omega (arith, ys, k))
    (elim e [ inl l ↦ inl (omega (arith, xs, l)) | inr l ↦ inr (omega (arith, ys, l)) ]) is
    ∙ sym left
