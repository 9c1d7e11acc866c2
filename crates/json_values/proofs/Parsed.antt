-- What parsed bytes are as a definition.
use Rattle.std.proofs.Common.{◌≡◌, ℕ, List, Bool, true, false, Some, None, cond, refl, ap, ◌∙◌}
use Rattle.std.specs.Str.{IsUtf8, is_utf8}
use Rattle.std.proofs.lemmas.Str.{IsUtf8-from_is_utf8, is_utf8-from_IsUtf8}
use Rattle.serde_json.specs.Data.{Data}
use Rattle.serde_json.specs.Read.{read}
use Rattle.json_values.specs.Text.{json_of}

-- bytes in UTF-8 that have a reading are that value
pub json_of-value : (bytes : List ℕ) (d : Data) → IsUtf8 bytes → read bytes ≡ Some d → json_of bytes ≡ Some d
json_of-value bytes d u e = ap (λ b. cond b (read bytes) None) (is_utf8-from_IsUtf8 bytes u) ∙ e

-- bytes that have no reading, if they are UTF-8, are no JSON
pub json_of-none : (bytes : List ℕ) → (IsUtf8 bytes → read bytes ≡ None) → json_of bytes ≡ None
json_of-none bytes h = by (is_utf8 bytes) refl
  where
    by : (b : Bool) → is_utf8 bytes ≡ b → json_of bytes ≡ None
    by true e = ap (λ b. cond b (read bytes) None) e ∙ h (IsUtf8-from_is_utf8 bytes e)
    by false e = ap (λ b. cond b (read bytes) None) e

pub ruleset texts = (json_of-value, json_of-none)
