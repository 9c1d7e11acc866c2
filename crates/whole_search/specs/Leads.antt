-- From which spots something can be reached, as the search's table of them tells.
use Rattle.std.specs.Prelude.{◌≡◌, ℕ, ◌<◌, List, [], ◌∷◌, map, length, Bool, true, false, ◌||◌, Some, IsTrue, ◌↔◌, ◌⊎◌, ⊤, slice_get, slice_index_or}
use Rattle.std.specs.Option.{option_map_or}
use Rattle.std.specs.Global.{Vec}
use Rattle.graph_nodes.specs.Graph.{Graph, is_definition}
use Rattle.graph_nodes.specs.Cut.{is_cut}
use Rattle.graph_nodes.specs.declared.node.Edge.{Edge}
use Rattle.graph_nodes.specs.declared.node.Place.{Place}
use Rattle.graph_nodes.specs.declared.node.Place.TheVariants as place
use Rattle.partial_path.specs.declared.config.Spot.{Spot}
use Rattle.partial_path.specs.declared.config.Spot.TheVariants.{Root, At}

-- whether a run may land at the place: a path is cut there, or it is a definition
abbrev pub is_landing : Graph → Place → Bool
is_landing g place.Root = true
is_landing g place.Jump = true
is_landing g (place.At n) = is_cut g (place.At n) || is_definition g.nodes n

-- the edges at these positions lead from the node, one after the other, to a place to land at
abbrev pub LeadsBy : Graph → ℕ → List ℕ → Type 0
LeadsBy g n [] = ⊥
LeadsBy g n (e ∷ es) =
    (edge : Edge) × (slice_get g.edges e ≡ Some edge) × (edge.source ≡ place.At n)
    × (IsTrue (is_landing g edge.sink) ⊎ ((m : ℕ) × (edge.sink ≡ place.At m) × LeadsBy g m es))

-- some edges of the file lead from the node to a place to land at
abbrev pub CanLand : Graph → ℕ → Type 0
CanLand g n = (es : List ℕ) × LeadsBy g n es

-- the mark at the position; true past the last one
abbrev pub mark_at : List Bool → ℕ → Bool
mark_at marks n = slice_index_or marks n true

-- each node has a mark that says whether edges lead from it to a place to land at
pub record AreMarks (g : Graph) (marks : List Bool) : Type 0 where
  pub one_each : length marks ≡ length g.nodes
  pub exact : (n : ℕ) → n < length g.nodes → IsTrue (mark_at marks n) ↔ CanLand g n

-- each file has its table of marks
abbrev pub AreTables : List Graph → List (List Bool) → Type 0
AreTables [] [] = ⊤
AreTables [] (marks ∷ tables) = ⊥
AreTables (g ∷ files) [] = ⊥
AreTables (g ∷ files) (marks ∷ tables) = AreMarks g marks × AreTables files tables

-- what the tables hold
abbrev pub contents : List (Vec Bool) → List (List Bool)
contents tables = map (λ (marks : Vec Bool). marks.items) tables

-- whether the spot is live by these tables: the root is, a node by its mark, and any past the last one
abbrev pub live_at : List (List Bool) → Spot → Bool
live_at tables Root = true
live_at tables (At node) =
    option_map_or (λ (marks : List Bool). mark_at marks node.node) (slice_get tables node.file) true

-- whether edges lead on from the place, by the marks there are so far
abbrev pub leads_on : Graph → List Bool → Place → Bool
leads_on g marks place.Root = true
leads_on g marks place.Jump = true
leads_on g marks (place.At n) = is_landing g (place.At n) || mark_at marks n

-- whether the edge at the position leads to a place to land at, by the marks there are so far
abbrev pub leads_by : Graph → List Bool → ℕ → Bool
leads_by g marks e =
    option_map_or (λ (edge : Edge). leads_on g marks edge.sink) (slice_get g.edges e) false
