-- Which value bytes are.
use Rattle.std.specs.Prelude.{◌≡◌, ℕ, List, if◌then◌else◌, Option, Some, None}
use Rattle.std.specs.Str.{is_utf8}
use Rattle.serde_json.specs.Data.{Data}
use Rattle.serde_json.specs.Find.{as_object}
use Rattle.serde_json.specs.Read.{read}

-- the value of the bytes, where they are JSON in UTF-8
abbrev pub json_of : List ℕ → Option Data
json_of bytes = if is_utf8 bytes then read bytes else None

-- there is a value, and it is no object
abbrev pub IsOther : Option Data → Type 0
IsOther value = (d : Data) × (value ≡ Some d) × (as_object d ≡ None)

-- the bytes are JSON in UTF-8, but no object
abbrev pub IsNoObject : List ℕ → Type 0
IsNoObject bytes = IsOther (json_of bytes)
