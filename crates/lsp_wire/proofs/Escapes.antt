-- What is escaped is read as what it was.
use Rattle.std.proofs.Common.{◌≡◌, ℕ, ◌<◌, ◌==◌, ◌/◌, ◌%◌, ◌&&◌, ◌||◌, Bool, true, false, not, List, [], ◌∷◌, ◌++◌, All, Some, None, if◌then◌else◌, refl, sym, ap, ◌∙◌, flat_map}
use Rattle.std.proofs.lemmas.Bool.{agree_below_at, and_parts, cases_Bool}
use Rattle.std.proofs.lemmas.List.Elements.{All-head, All-tail}
use Rattle.std.specs.Char.{is_digit}
use Rattle.std.specs.Fmt.{digit_glyph}
use Rattle.percent_encoding.specs.AsciiSet.{should_percent_encode}
use Rattle.percent_encoding.specs.Percent.{percent_encode_byte, percent_encode, encode_byte, percent_decode}
use Rattle.percent_encoding.proofs.PercentLemmas.{round_trip, IsByte}
use Rattle.lsp_wire.specs.Uris.{is_plain, escaped, encoded, decoded, has_digits, is_escaped, unescaped, NamesItsPath}
use Rattle.lsp_wire.specs.declared.uris.TheConstants.{ESCAPED}

-- the bytes that are escaped are those of the set
plain : (b : ℕ) → b < 256 → not (is_plain b) ≡ should_percent_encode ESCAPED b
unfolding should_percent_encode
plain b h = agree_below_at (λ b. not (is_plain b)) (should_percent_encode ESCAPED) 256 b refl h

either : {A : Type 0} (p s : Bool) (x y : A) → not p ≡ s → (if s then x else y) ≡ (if p then y else x)
either true s x y e = ap (λ b. if b then x else y) (sym e)
either false s x y e = ap (λ b. if b then x else y) (sym e)

pub encodes : (bytes : List ℕ) → All IsByte bytes → percent_encode ESCAPED bytes ≡ flat_map escaped bytes
unfolding percent_encode
encodes [] small = refl
encodes (b ∷ bytes) small =
    λ i. either (is_plain b) (should_percent_encode ESCAPED b) (percent_encode_byte b) (b ∷ []) (plain b (All-head IsByte b bytes small)) i
    ++ encodes bytes (All-tail IsByte b bytes small) i

-- a byte that stands for itself is no `%`
no_sign : (b : ℕ) → b < 256 → (not (is_plain b) || not (b == 37)) ≡ true
no_sign b h = agree_below_at (λ b. not (is_plain b) || not (b == 37)) (λ _. true) 256 b refl h

abbrev high : ℕ → ℕ
high b = digit_glyph true (b / 16 % 16)

abbrev low : ℕ → ℕ
low b = digit_glyph true (b % 16)

-- the digits of an escape are digits, and no `%`
digits : (b : ℕ) → b < 256 → ((is_digit (high b) 16 && is_digit (low b) 16) && (not (high b == 37) && not (low b == 37))) ≡ true
digits b h = agree_below_at (λ b. (is_digit (digit_glyph true (b / 16 % 16)) 16 && is_digit (digit_glyph true (b % 16)) 16) && (not (digit_glyph true (b / 16 % 16) == 37) && not (digit_glyph true (b % 16) == 37))) (λ _. true) 256 b refl h

one_plain : (b : ℕ) (rest : List ℕ) → (true && not (b == 37)) ≡ true → is_escaped rest ≡ true → is_escaped (b ∷ rest) ≡ true
one_plain b rest n e = λ i. (n i || has_digits rest) && e i

one_escape : (h l : ℕ) (rest : List ℕ) → (is_digit h 16 && is_digit l 16) ≡ true → not (h == 37) ≡ true → not (l == 37) ≡ true
    → is_escaped rest ≡ true → is_escaped (37 ∷ h ∷ l ∷ rest) ≡ true
one_escape h l rest d nh nl e = λ i. d i && ((nh i || has_digits (l ∷ rest)) && ((nl i || has_digits rest) && e i))

is_escaped-byte : (b : ℕ) (rest : List ℕ) → b < 256 → is_escaped rest ≡ true → is_escaped (escaped b ++ rest) ≡ true
unfolding percent_encode_byte
is_escaped-byte b rest small e = by (is_plain b) refl
  where
    by : (p : Bool) → is_plain b ≡ p → is_escaped ((if p then b ∷ [] else percent_encode_byte b) ++ rest) ≡ true
    by true is = one_plain b rest (ap (λ t. not t || not (b == 37)) (sym is) ∙ no_sign b small) e
    by false is =
        let parts = and_parts (is_digit (high b) 16 && is_digit (low b) 16) (not (high b == 37) && not (low b == 37)) (digits b small) in
        let signs = and_parts (not (high b == 37)) (not (low b == 37)) parts.1 in
        one_escape (high b) (low b) rest parts.0 signs.0 signs.1 e

is_escaped-all : (bytes : List ℕ) → All IsByte bytes → is_escaped (flat_map escaped bytes) ≡ true
is_escaped-all [] small = refl
is_escaped-all (b ∷ bytes) small =
    is_escaped-byte b (flat_map escaped bytes) (All-head IsByte b bytes small) (is_escaped-all bytes (All-tail IsByte b bytes small))

pub names_its_path : (path : List ℕ) → All IsByte path → unescaped (flat_map escaped path) ≡ Some path
names_its_path path small =
    ap (λ b. if b then Some (percent_decode (flat_map escaped path)) else None) (is_escaped-all path small)
    ∙ ap (λ bytes. Some (percent_decode bytes)) (sym (encodes path small))
    ∙ ap Some (round_trip ESCAPED path refl small)
