-- What a parsed text is as a definition.
use Rattle.std.proofs.Common.{◌≡◌, ◌≢◌, ℕ, ◌<◌, ◌^◌, List, length, Bool, true, false, Some, None, Result, Err, cond, refl, ap, ◌∙◌}
use Rattle.std.specs.Str.{IsUtf8, is_utf8}
use Rattle.std.proofs.lemmas.Str.{is_utf8-from_IsUtf8}
use Rattle.serde_json.specs.Data.{Data}
use Rattle.serde_json.specs.Read.{read}
use Rattle.json_values.specs.Text.{json_of}
use Rattle.graph_json.specs.declared.fault.GraphTextFault.{GraphTextFault}
use Rattle.graph_json.specs.declared.fault.GraphTextFault.TheVariants.{BadJson, BadShape, Graph, NoMemory, SameName, UnknownName}
use Rattle.graph_json.specs.Pieces.{HasShortLists}
use Rattle.graph_json.specs.Collect.{Fails}
use Rattle.graph_json.proofs.Sizes.{short_lists}

-- bytes in UTF-8 that have a reading are that value
pub json_of-value : (bytes : List ℕ) (d : Data) → IsUtf8 bytes → read bytes ≡ Some d → json_of bytes ≡ Some d
json_of-value bytes d u e = ap (λ b. cond b (read bytes) None) (is_utf8-from_IsUtf8 bytes u) ∙ e

-- the arrays of a value are no longer than its text
pub json_of-short : (bytes : List ℕ) (d : Data) → length bytes < 2 ^ 32 → json_of bytes ≡ Some d → HasShortLists d
json_of-short bytes d h e = by (is_utf8 bytes) e
  where
    by : (b : Bool) → cond b (read bytes) None ≡ Some d → HasShortLists d
    by true g = short_lists bytes d h g
    by false g = cc

pub ruleset texts = (json_of-short)

-- a fault but want of memory is that of the definition
pub fails_is : {Y : Type 0} (e : GraphTextFault) (defined : Result Y GraphTextFault) → Fails e defined → e ≢ NoMemory → defined ≡ Err e
fails_is NoMemory defined h some = absurd (some refl)
fails_is BadJson defined h some = h
fails_is (BadShape part) defined h some = h
fails_is (Graph fault) defined h some = h.0
fails_is (SameName n) defined h some = h
fails_is (UnknownName part) defined h some = h

pub ruleset causes = (fails_is)
