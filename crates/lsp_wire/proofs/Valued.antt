-- What the bytes of a value are.
use Rattle.std.proofs.Common.{◌≡◌, ℕ, ◌<◌, Bool, true, false, List, [], ◌∷◌, length, Option, Some, None, cond, refl, sym, ◌∙◌, arith}
use Rattle.std.proofs.lemmas.Option.{none-some}
use Rattle.std.specs.Str.{is_utf8}
use Rattle.serde_json.specs.Data.{Data}
use Rattle.serde_json.specs.Read.{read}
use Rattle.serde_json.proofs.OnLiterals.{serde_json_on_literals}
use Rattle.json_values.specs.Text.{json_of}

read_nothing : read [] ≡ None
unfolding serde_json_on_literals
read_nothing = refl

nothing : json_of [] ≡ None
nothing = by (is_utf8 [])
  where
    by : (b : Bool) → cond b (read []) None ≡ None
    by true = read_nothing
    by false = refl

-- a value has bytes
pub some_bytes : (bytes : List ℕ) (d : Data) → json_of bytes ≡ Some d → 0 < length bytes
some_bytes [] d e = absurd (none-some d (sym nothing ∙ e))
some_bytes (b ∷ bytes) d e = omega arith
