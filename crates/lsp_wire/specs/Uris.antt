-- Which path a document's URI names, which URI a path has, and where a path stands under a root.
use Rattle.std.specs.Prelude.{◌≡◌, ℕ, ◌-◌, ◌<◌, ◌==◌, ◌&&◌, ◌||◌, Bool, true, false, not, nat_le, All, List, [], ◌∷◌, ◌++◌, length, take, drop, flat_map, if◌then◌else◌, Option, None, Some, option_and_then, option_map, codes}
use Rattle.std.specs.Char.{is_digit}
use Rattle.std.specs.List.{starts_with, ends_with}
use Rattle.percent_encoding.specs.Percent.{percent_sign, percent_decode, percent_encode_byte}

-- what stands behind these bytes, where the text begins with them
abbrev pub behind : List ℕ → List ℕ → Option (List ℕ)
behind front text =
    if starts_with (λ a b. a == b) text front then Some (drop (length front) text) else None

-- two hexadecimal digits of either case are at the front
abbrev pub has_digits : List ℕ → Bool
has_digits [] = false
has_digits (high ∷ []) = false
has_digits (high ∷ low ∷ more) = is_digit high 16 && is_digit low 16

-- two digits follow each `%`
abbrev pub is_escaped : List ℕ → Bool
is_escaped [] = true
is_escaped (byte ∷ more) = (not (byte == percent_sign) || has_digits more) && is_escaped more

-- The path that a URI names: `file://`, and then the path, in which `%` and two digits stand for a byte.
abbrev pub unescaped : List ℕ → Option (List ℕ)
unescaped path = if is_escaped path then Some (percent_decode path) else None

-- the path of the whole URI; none where the URI has another form
abbrev pub decoded : List ℕ → Option (List ℕ)
decoded uri = option_and_then unescaped (behind (codes "file://") uri)

-- the bytes that stand for themselves: ASCII letters and digits, and `-`, `.`, `_`, `~`, `/`
abbrev pub is_between : ℕ → ℕ → ℕ → Bool
is_between low high byte = nat_le low byte && nat_le byte high

-- whether a byte is one of those
abbrev pub is_plain : ℕ → Bool
is_plain byte = is_between 65 90 byte || is_between 97 122 byte || is_between 48 57 byte
    || (byte == 45) || (byte == 46) || (byte == 95) || (byte == 126) || (byte == 47)

-- The URI of a path: `file://`, and each byte as itself or as `%` and two upper-case hexadecimal digits.
abbrev pub escaped : ℕ → List ℕ
escaped byte = if is_plain byte then byte ∷ [] else percent_encode_byte byte

-- the URI, from its first byte on
abbrev pub encoded : List ℕ → List ℕ
encoded path = codes "file://" ++ flat_map escaped path

-- the path of a path's URI is that path
abbrev pub NamesItsPath : Type 0
NamesItsPath = (path : List ℕ) → All (λ byte. byte < 256) path → decoded (encoded path) ≡ Some path

-- a path without a slash at its end
abbrev pub without_slash : List ℕ → List ℕ
without_slash path =
    if ends_with (λ a b. a == b) path (47 ∷ []) then take (length path - 1) path else path

-- the root that a client names: the path of its URI without a slash at the end, and empty where that names none
abbrev pub or_empty : Option (List ℕ) → List ℕ
or_empty None = []
or_empty (Some path) = path

-- the root of the URI that a client may name
abbrev pub root_of : Option (List ℕ) → List ℕ
root_of uri = or_empty (option_map without_slash (option_and_then decoded uri))

-- where a path stands under a root: what stands behind the root and a slash
abbrev pub inside : List ℕ → List ℕ → Option (List ℕ)
inside root path = option_and_then (behind (47 ∷ [])) (behind root path)
