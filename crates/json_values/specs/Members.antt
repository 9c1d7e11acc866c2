-- Which members an object has beside those that a form allows; a form is a test of names.
use Rattle.std.specs.Prelude.{ℕ, ◌&&◌, List, Bool, true, false, if◌then◌else◌, Option, Some, None, option_and_then}
use Rattle.std.specs.List.{list_any}
use Rattle.std.specs.Option.{option_map_or}
use Rattle.std.specs.Str.{bytes_eq}
use Rattle.serde_json.specs.Data.{Data, Members, no_members, member}
use Rattle.serde_json.specs.Find.{as_object}

-- whether the name is one of these
abbrev pub is_among : List (List ℕ) → List ℕ → Bool
is_among names name = list_any (bytes_eq name) names

-- whether each member's name is allowed
abbrev pub each_name : (List ℕ → Bool) → Members → Bool
each_name allows no_members = true
each_name allows (member name d ms) = allows name && each_name allows ms

-- whether the value is an object with no member but those that are allowed
abbrev pub has_only : (List ℕ → Bool) → Data → Bool
has_only allows d = option_map_or (each_name allows) (as_object d) false

-- the first member that isn't allowed; members stand in the order of their names' bytes
abbrev pub other_of : (List ℕ → Bool) → Members → Option (List ℕ)
other_of allows no_members = None
other_of allows (member name d ms) = if allows name then other_of allows ms else Some name

-- the least member by bytes that isn't allowed
abbrev pub other_in : (List ℕ → Bool) → Data → Option (List ℕ)
other_in allows d = option_and_then (other_of allows) (as_object d)
