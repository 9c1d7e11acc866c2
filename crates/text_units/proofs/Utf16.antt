-- The units that are counted are those of UTF-16.
use Rattle.std.proofs.Common.{◌≡◌, ℕ, ◌+◌, ◌/◌, ◌%◌, ◌<◌, ◌≤◌, ◌⊎◌, true, List, [], ◌∷◌, ◌++◌, length, arith, refl, ap, ◌∙◌, inl, inr}
use Rattle.std.proofs.lemmas.Bool.{lt-ltb, le-ltb, cases_lt, and_parts}
use Rattle.std.proofs.lemmas.List.{length-append}
use Rattle.std.specs.Char.Escape.{encode_utf16}
use Rattle.std.specs.Char.{encode_utf8}
use Rattle.std.specs.List.{flat_map}
use Rattle.std.specs.Str.{encode_utf8_all, all_scalars}
use lib.Utf8.{scalar, scalar_cases}
use Rattle.text_units.specs.Units.{units_of, units_in, CountsUtf16}

low : (b : ℕ) → b < 128 → units_of b ≡ 1
low b h = rw (lt-ltb b 128 h, lt-ltb b 240 (omega (arith, h)))

more : (b : ℕ) → 128 ≤ b → b < 192 → units_of b ≡ 0
more b from below = rw (le-ltb b 128 from, lt-ltb b 192 below)

one : (b : ℕ) → 192 ≤ b → b < 240 → units_of b ≡ 1
one b from below = rw (le-ltb b 128 (omega (arith, from)), le-ltb b 192 from, lt-ltb b 240 below)

two : (b : ℕ) → 240 ≤ b → units_of b ≡ 2
two b from = rw (le-ltb b 128 (omega (arith, from)), le-ltb b 192 (omega (arith, from)), le-ltb b 240 from)

-- the bytes of a character, by how many they are
bytes1 : (c : ℕ) → c < 128 → encode_utf8 c ≡ c ∷ []
unfolding encode_utf8
bytes1 c h = rw (lt-ltb c 128 h)

bytes2 : (c : ℕ) → 128 ≤ c → c < 2048 → encode_utf8 c ≡ (192 + c / 64) ∷ (128 + c % 64) ∷ []
unfolding encode_utf8
bytes2 c from below = rw (le-ltb c 128 from, lt-ltb c 2048 below)

bytes3 : (c : ℕ) → 2048 ≤ c → c < 65536 → encode_utf8 c ≡ (224 + c / 4096) ∷ (128 + c / 64 % 64) ∷ (128 + c % 64) ∷ []
unfolding encode_utf8
bytes3 c from below = rw (le-ltb c 128 (omega (arith, from)), le-ltb c 2048 from, lt-ltb c 65536 below)

bytes4 : (c : ℕ) → 65536 ≤ c → encode_utf8 c ≡ (240 + c / 262144) ∷ (128 + c / 4096 % 64) ∷ (128 + c / 64 % 64) ∷ (128 + c % 64) ∷ []
unfolding encode_utf8
bytes4 c from = rw (le-ltb c 128 (omega (arith, from)), le-ltb c 2048 (omega (arith, from)), le-ltb c 65536 from)

-- the units of a character in UTF-16
short : (c : ℕ) → c < 65536 → length (encode_utf16 c) ≡ 1
short c h = rw (lt-ltb c 65536 h)

long : (c : ℕ) → 65536 ≤ c → length (encode_utf16 c) ≡ 2
long c h = rw (le-ltb c 65536 h)

-- a byte that goes on
next : (n : ℕ) → units_of (128 + n % 64) ≡ 0
next n = more (128 + n % 64) (omega arith) (omega arith)

character : (c : ℕ) (rest : List ℕ) → c < 1114112 → units_in (encode_utf8 c ++ rest) ≡ length (encode_utf16 c) + units_in rest
character c rest bound = first (cases_lt c 128)
  where
    fourth : (65536 ≤ c) → units_in (encode_utf8 c ++ rest) ≡ length (encode_utf16 c) + units_in rest
    fourth from = ap (λ bytes. units_in (bytes ++ rest)) (bytes4 c from)
        ∙ omega (arith, two (240 + c / 262144) (omega arith), next (c / 4096), next (c / 64), next c, long c from)

    third : (c < 65536) ⊎ (65536 ≤ c) → 2048 ≤ c → units_in (encode_utf8 c ++ rest) ≡ length (encode_utf16 c) + units_in rest
    third (inl below) from = ap (λ bytes. units_in (bytes ++ rest)) (bytes3 c from below)
        ∙ omega (arith, one (224 + c / 4096) (omega arith) (omega (arith, below)), next (c / 64), next c, short c below)
    third (inr over) from = fourth over

    second : (c < 2048) ⊎ (2048 ≤ c) → 128 ≤ c → units_in (encode_utf8 c ++ rest) ≡ length (encode_utf16 c) + units_in rest
    second (inl below) from = ap (λ bytes. units_in (bytes ++ rest)) (bytes2 c from below)
        ∙ omega (arith, one (192 + c / 64) (omega arith) (omega (arith, below)), next c, short c (omega (arith, below)))
    second (inr over) from = third (cases_lt c 65536) over

    first : (c < 128) ⊎ (128 ≤ c) → units_in (encode_utf8 c ++ rest) ≡ length (encode_utf16 c) + units_in rest
    first (inl below) = ap (λ bytes. units_in (bytes ++ rest)) (bytes1 c below) ∙ omega (arith, low c below, short c (omega (arith, below)))
    first (inr over) = second (cases_lt c 2048) over

-- the code of a character has a bound
bounded : (c : ℕ) → scalar c ≡ true → c < 1114112
bounded c is = by (scalar_cases c is)
  where
    by : (c < 55296) ⊎ ((57344 ≤ c) × (c < 1114112)) → c < 1114112
    by (inl below) = omega (arith, below)
    by (inr within) = within.1

pub counts_utf16 : CountsUtf16
counts_utf16 [] are = refl
counts_utf16 (c ∷ characters) are =
    let parts = and_parts (scalar c) (all_scalars characters) are in
    character c (encode_utf8_all characters) (bounded c parts.0)
    ∙ omega (arith, counts_utf16 characters parts.1, length-append (encode_utf16 c) (flat_map encode_utf16 characters))
