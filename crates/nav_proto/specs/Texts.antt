-- Which texts of a request have their form.
use Rattle.std.specs.Prelude.{ℕ, ◌&&◌, ◌||◌, ◌==◌, List, length, Bool, not, nat_le, Option, option_and_then, codes}
use Rattle.std.specs.List.{list_all, slice_split}
use Rattle.std.specs.Str.{bytes_eq}
use Rattle.serde_json.specs.Data.{Data}
use Rattle.serde_json.specs.Find.{as_str}
use Rattle.json_values.specs.Numbers.{only_if}

-- whether the text has at least one byte and at most so many
abbrev pub has_bytes : ℕ → List ℕ → Bool
has_bytes most text = nat_le 1 (length text) && nat_le (length text) most

-- a slash
abbrev pub is_slash : ℕ → Bool
is_slash byte = byte == 47

-- whether a path may have this part: it isn't empty, `.` or `..`
abbrev pub is_part : List ℕ → Bool
is_part part =
    not (bytes_eq part (codes "") || bytes_eq part (codes ".") || bytes_eq part (codes ".."))

-- a path: 1 to 512 bytes, none below 32, in parts between slashes
unfoldable pub is_path : List ℕ → Bool
is_path text =
    has_bytes 512 text && list_all (nat_le 32) text && list_all is_part (slice_split is_slash text)

-- a prefix: a path, or empty
abbrev pub is_prefix : List ℕ → Bool
is_prefix text = bytes_eq text (codes "") || is_path text

-- a user: 1 to 256 bytes
abbrev pub is_user : List ℕ → Bool
is_user text = has_bytes 256 text

-- a text that passes the test
abbrev pub text_of : (List ℕ → Bool) → Data → Option (List ℕ)
text_of test d = option_and_then (λ t. only_if (test t) t) (as_str d)
