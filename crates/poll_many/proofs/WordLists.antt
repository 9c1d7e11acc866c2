-- Three words, and lists that aren't three.
use Rattle.std.proofs.Common.{◌≡◌, ◌<◌, ◌≤◌, List, [], ◌∷◌, length, get_or, None, String, refl, ap, ◌∙◌, arith}
use Rattle.std.specs.Global.{Global}
use Rattle.std.specs.String.{string_bytes}
use Rattle.poll_many.specs.ManyWords.{number_of, wanted_of, wanted_by, texts}

pub three_words : (words : List (String Global)) (a b c : String Global) → 3 ≤ length words → length words < 4
    → a ≡ get_or words 0 a → b ≡ get_or words 1 b → c ≡ get_or words 2 c
    → wanted_of (number_of (string_bytes a)) (number_of (string_bytes b)) (number_of (string_bytes c)) ≡ wanted_by (texts words)
three_words [] a b c many few first second third = absurd (omega (arith, many))
three_words (x ∷ []) a b c many few first second third = absurd (omega (arith, many))
three_words (x ∷ y ∷ []) a b c many few first second third = absurd (omega (arith, many))
three_words (x ∷ y ∷ z ∷ []) a b c many few first second third =
    ap (λ (w : String Global). wanted_of (number_of (string_bytes w)) (number_of (string_bytes b)) (number_of (string_bytes c))) first
    ∙ (ap (λ (w : String Global). wanted_of (number_of (string_bytes x)) (number_of (string_bytes w)) (number_of (string_bytes c))) second
    ∙ ap (λ (w : String Global). wanted_of (number_of (string_bytes x)) (number_of (string_bytes y)) (number_of (string_bytes w))) third)
three_words (x ∷ y ∷ z ∷ w ∷ words) a b c many few first second third = absurd (omega (arith, few))

pub too_few_words : (words : List (String Global)) → length words < 3 → None ≡ wanted_by (texts words)
too_few_words [] few = refl
too_few_words (x ∷ []) few = refl
too_few_words (x ∷ y ∷ []) few = refl
too_few_words (x ∷ y ∷ z ∷ words) few = absurd (omega (arith, few))

pub too_many_words : (words : List (String Global)) → 4 ≤ length words → None ≡ wanted_by (texts words)
too_many_words [] many = absurd (omega (arith, many))
too_many_words (x ∷ []) many = absurd (omega (arith, many))
too_many_words (x ∷ y ∷ []) many = absurd (omega (arith, many))
too_many_words (x ∷ y ∷ z ∷ []) many = absurd (omega (arith, many))
too_many_words (x ∷ y ∷ z ∷ w ∷ words) many = refl
