-- Which edges leave a place.
use Rattle.std.specs.Prelude.{ℕ, ◌+◌, List, [], ◌∷◌, ◌++◌, Bool, true, false, nat_eq, if◌then◌else◌}
use Rattle.graph_nodes.specs.declared.node.Edge.{Edge}
use Rattle.graph_nodes.specs.declared.node.Place.{Place}
use Rattle.graph_nodes.specs.declared.node.Place.TheVariants.{Root, Jump, At}
use Rattle.graph_nodes.specs.Graph.{Graph}

-- whether two places are the same
abbrev pub place_eq : Place → Place → Bool
place_eq Root Root = true
place_eq Root Jump = false
place_eq Root (At n) = false
place_eq Jump Root = false
place_eq Jump Jump = true
place_eq Jump (At n) = false
place_eq (At m) Root = false
place_eq (At m) Jump = false
place_eq (At m) (At n) = nat_eq m n

-- the position, where the test passes
abbrev pub where_passes : Bool → ℕ → List ℕ
where_passes passes at = if passes then at ∷ [] else []

-- the positions of the elements that pass the test, rising, where the first element's position is `at`
abbrev pub positions_from : {X : Type 0} → (X → Bool) → ℕ → List X → List ℕ
positions_from test at [] = []
positions_from test at (x ∷ xs) = where_passes (test x) at ++ positions_from test (at + 1) xs

-- the positions of the edges that leave the place, rising
abbrev pub edges_from : Graph → Place → List ℕ
edges_from g place = positions_from (λ (e : Edge). place_eq e.source place) 0 g.edges
