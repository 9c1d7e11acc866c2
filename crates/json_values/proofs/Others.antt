-- Which value is no object.
use Rattle.std.proofs.Common.{◌≡◌, false, Some, Option}
use Rattle.std.specs.Prelude.{is_some}
use Rattle.serde_json.specs.Data.{Data}
use Rattle.serde_json.specs.Find.{as_object}
use Rattle.json_values.specs.Text.{IsOther}
use Rattle.json_values.proofs.Checks.{none_from}

pub IsOther-value : (o : Option Data) (d : Data) → o ≡ Some d → is_some (as_object d) ≡ false → IsOther o
IsOther-value o d e f = (d, e, none_from (as_object d) f)

pub ruleset others = (IsOther-value)
