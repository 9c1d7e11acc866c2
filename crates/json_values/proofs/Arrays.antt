-- How an array of a value shows in its data.
use Rattle.std.proofs.Common.{◌≡◌, List, [], ◌∷◌, map, refl, ap}
use Rattle.serde_json.specs.View.{view, items_view}
use Rattle.serde_json.specs.declared.value.Value.{Value}
use Rattle.json_values.specs.Lists.{data_list}

-- the items of an array are those of its list
pub data_list-items_view : (vs : List Value) → data_list (items_view vs) ≡ map view vs
data_list-items_view [] = refl
data_list-items_view (v ∷ vs) = ap (λ l. view v ∷ l) (data_list-items_view vs)

pub ruleset lists = (data_list-items_view)
