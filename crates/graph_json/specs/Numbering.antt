-- What an index of names holds: for each name the first node that has it.
use Rattle.std.specs.Prelude.{◌≡◌, ℕ, List, Option}
use Rattle.std.specs.Borrow.{Bor}
use Rattle.std.specs.Str.{bytes_eq}
use Rattle.indexmap.specs.IndexMap.{IndexMap, get_by}
use Rattle.graph_json.specs.Named.{first_called}

-- it finds for each name the position of the first node that has it, and none for a name that no node has
abbrev pub IsNumbering : {S : Type 0} → List (Option (List ℕ)) → IndexMap (Bor (List ℕ)) ℕ S
    → Type 0
IsNumbering names m =
    (name : List ℕ) → get_by (λ k. bytes_eq name k.now) m ≡ first_called names name
