-- The names of an object's members are its keys.
use Rattle.std.proofs.Common.{◌≡◌, ℕ, List, [], ◌∷◌, Bool, true, false, not, ◌&&◌, Option, Some, option_map, if◌then◌else◌, cond, refl, ap, String, Global, string_bytes}
use Rattle.std.specs.List.{find, list_all}
use Rattle.std.specs.Map.{keys_of}
use Rattle.serde_json.proofs.Views.{Entry}
use Rattle.serde_json.specs.View.{members_view}
use Rattle.json_values.specs.Members.{each_name, other_of}

pub each_name-members_view : (allows : List ℕ → Bool) (es : List Entry) → each_name allows (members_view es) ≡ list_all (λ (k : String Global). allows (string_bytes k)) (keys_of es)
each_name-members_view allows [] = refl
each_name-members_view allows (e ∷ es) = ap (λ b. allows (string_bytes e.0) && b) (each_name-members_view allows es)

-- one key: it is left out, or it is the first
step : (b : Bool) (k : String Global) (rest : Option (List ℕ)) (found : Option (String Global)) → rest ≡ option_map string_bytes found
    → (if b then rest else Some (string_bytes k)) ≡ option_map string_bytes (cond (not b) (Some k) found)
step true k rest found e = e
step false k rest found e = refl

pub other_of-members_view : (allows : List ℕ → Bool) (es : List Entry) → other_of allows (members_view es) ≡ option_map string_bytes (find (λ (k : String Global). not (allows (string_bytes k))) (keys_of es))
other_of-members_view allows [] = refl
other_of-members_view allows (e ∷ es) = step (allows (string_bytes e.0)) e.0 _ _ (other_of-members_view allows es)

pub ruleset members = (each_name-members_view, other_of-members_view)
