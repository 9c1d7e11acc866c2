-- Texts without a newline: literals, numbers in decimal, quoted texts, and what is put together of them.
use Rattle.std.proofs.Common.{◌≡◌, ◌≢◌, ◌∙◌, ℕ, zero, suc, ◌+◌, ◌/◌, ◌%◌, List, [], ◌∷◌, ◌++◌, Bool, true, false, not, ◌&&◌, ◌==◌, cond, ap, refl, subst, sym, arith, nat_lt, length, flat_map, decimal, ⊎_elim}
use Rattle.std.proofs.lemmas.Bool.{cases_eq, ne_eqb, false≢true}
use Rattle.std.proofs.lemmas.List.Folds.{list_all-append}
use Rattle.std.specs.Char.{is_newline, digit_char}
use Rattle.std.specs.Fmt.{digits, digits_onto, digit_glyph}
use Rattle.std.specs.List.{list_all, position_or_len}
use Rattle.json.specs.Print.{escape, escape_byte, escape_letter, quoted}

abbrev pub other : ℕ → Bool
other b = not (is_newline b)

abbrev pub Clean : List ℕ → Type 0
Clean xs = list_all other xs ≡ true

other-ne : (b : ℕ) → (b ≢ 10) → other b ≡ true
other-ne b h = ap not (ne_eqb b 10 h)

other-cond : (t : Bool) (x y : ℕ) → other x ≡ true → other y ≡ true → other (cond t x y) ≡ true
other-cond true x y p q = p
other-cond false x y p q = q

pub clean-cons : (x : ℕ) (xs : List ℕ) → other x ≡ true → Clean xs → Clean (x ∷ xs)
clean-cons x xs p q = ap (λ b. b && list_all other xs) p ∙ q

clean-cond : (t : Bool) (xs ys : List ℕ) → Clean xs → Clean ys → Clean (cond t xs ys)
clean-cond true xs ys p q = p
clean-cond false xs ys p q = q

pub clean-append : (xs ys : List ℕ) → Clean xs → Clean ys → Clean (xs ++ ys)
clean-append xs ys p q = list_all-append other xs ys ∙ ap (λ b. b && list_all other ys) p ∙ q

pub clean-flat_map : {X : Type 0} (f : X → List ℕ) → ((x : X) → Clean (f x)) → (xs : List X) → Clean (flat_map f xs)
clean-flat_map f h [] = refl
clean-flat_map f h (x ∷ xs) = clean-append (f x) (flat_map f xs) (h x) (clean-flat_map f h xs)

glyph : (d : ℕ) → other (digit_glyph false d) ≡ true
glyph d = other-cond (nat_lt d 10) (48 + d) (87 + d) (other-ne (48 + d) (λ e. omega (arith, e))) (other-ne (87 + d) (λ e. omega (arith, e)))

char : (d : ℕ) → other (digit_char d) ≡ true
char d = other-cond (nat_lt d 10) (48 + d) (87 + d) (other-ne (48 + d) (λ e. omega (arith, e))) (other-ne (87 + d) (λ e. omega (arith, e)))

clean-digits_onto : (k n : ℕ) (acc : List ℕ) → Clean acc → Clean (digits_onto k 10 false n acc)
clean-digits_onto zero n acc h = h
clean-digits_onto (suc k) n acc h =
    let more = clean-cons (digit_glyph false (n % 10)) acc (glyph (n % 10)) h in
    clean-cond (n / 10 == 0) (digit_glyph false (n % 10) ∷ acc) (digits_onto k 10 false (n / 10) (digit_glyph false (n % 10) ∷ acc)) more (clean-digits_onto k (n / 10) (digit_glyph false (n % 10) ∷ acc) more)

pub clean-decimal : (n : ℕ) → Clean (decimal n)
unfolding digits
clean-decimal n = clean-digits_onto 64 n [] refl

-- the letter of a short escape, where the byte itself is no newline
letter : (x : ℕ) → other x ≡ true → other (escape_letter x) ≡ true
letter x h =
    other-cond _ x _ h (other-cond (x == 8) 98 _ refl (other-cond (x == 12) 102 _ refl (other-cond (x == 10) 110 _ refl (other-cond (x == 13) 114 _ refl (other-cond (x == 9) 116 0 refl refl)))))

-- a byte that is no newline stands as itself or is escaped, and a newline is escaped
clean-escape_byte : (x : ℕ) → Clean (escape_byte x)
unfolding escape_byte
clean-escape_byte x =
    ⊎_elim
    (λ e. subst (λ y. Clean (escape_byte y)) (sym e) refl)
    (λ ne.
    let h = other-ne x ne in
    clean-cond (nat_lt 0 (escape_letter x)) (92 ∷ escape_letter x ∷ []) _
    (clean-cons (escape_letter x) [] (letter x h) refl)
    (clean-cond (nat_lt x 32) (92 ∷ 117 ∷ 48 ∷ 48 ∷ digit_char (x / 16) ∷ digit_char (x % 16) ∷ []) (x ∷ [])
    (clean-cons (digit_char (x / 16)) (digit_char (x % 16) ∷ []) (char (x / 16)) (clean-cons (digit_char (x % 16)) [] (char (x % 16)) refl))
    (clean-cons x [] h refl)))
    (cases_eq x 10)

pub clean-quoted : (xs : List ℕ) → Clean (quoted xs)
clean-quoted xs = clean-append (escape xs) (34 ∷ []) (clean-flat_map escape_byte clean-escape_byte xs) refl

-- where no byte is a newline, the place of the first one is the end
first : (t : Bool) (b : Bool) (n m : ℕ) → (t && b) ≡ true → (b ≡ true → n ≡ m) → cond t (1 + n) 0 ≡ suc m
first true b n m h e = let same : n ≡ m = e h in omega (arith, same)
first false b n m h e = absurd (false≢true h)

pub position-clean : (xs : List ℕ) → Clean xs → position_or_len is_newline xs ≡ length xs
position-clean [] h = refl
position-clean (x ∷ xs) h = first (other x) (list_all other xs) (position_or_len is_newline xs) (length xs) h (position-clean xs)
