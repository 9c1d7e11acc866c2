-- The items of an array, as a list.
use Rattle.std.specs.Prelude.{List, [], ◌∷◌, Option, option_map}
use Rattle.serde_json.specs.Data.{Data, Items, no_items, item}
use Rattle.serde_json.specs.Find.{as_array}

-- items, as a list
abbrev pub data_list : Items → List Data
data_list no_items = []
data_list (item d ds) = d ∷ data_list ds

-- the items of a value, where it is an array
abbrev pub list_of : Data → Option (List Data)
list_of d = option_map data_list (as_array d)
