-- Walks of one file: the lists of its edges that a partial path stands for, and the file's weight.
use Rattle.std.specs.Prelude.{◌≡◌, ◌≢◌, ◌<◌, ℕ, List, [], ◌∷◌, length, max, Bool, true, false, ◌&&◌, ◌||◌, nat_eq, Option, Some, None, if◌then◌else◌, IsTrue, IsSome, ⊤, Contains}
use Rattle.std.specs.Option.{option_and_then, option_map_or}
use Rattle.std.specs.List.{AllByRecursion, sum_by}
use Rattle.graph_nodes.specs.declared.node.Edge.{Edge}
use Rattle.graph_nodes.specs.declared.node.Place.{Place}
use Rattle.graph_nodes.specs.declared.node.Place.TheVariants as place
use Rattle.graph_nodes.specs.Graph.{Graph, is_reference}
use Rattle.graph_nodes.specs.Cut.{is_cut}
use Rattle.graph_nodes.specs.Whole.{edge_of, is_cut_of, is_definition_of, is_reference_of}
use Rattle.partial_path.specs.declared.config.Spot.{Spot}
use Rattle.partial_path.specs.declared.config.Spot.TheVariants as spot
use Rattle.partial_path.specs.declared.config.Config.{Config}
use Rattle.partial_path.specs.declared.config.EdgeAt.{EdgeAt}
use Rattle.partial_path.specs.declared.rule.Start.{Start}
use Rattle.partial_path.specs.declared.rule.Start.TheVariants.{Before, After}
use Rattle.partial_path.specs.Same.{spot_eq}
use Rattle.partial_path.specs.Step.{step, is_cut_edge, enter_place}
use Rattle.partial_path.specs.Runs.{run, IsApart}

-- the file alone, as a list of files
abbrev pub alone : Graph → List Graph
alone g = g ∷ []

-- the configuration from which edges are followed: a start before a reference enters it first
abbrev pub begin : List Graph → Start → Config → Option Config
begin files (Before node) c =
    if spot_eq (spot.At node) c.spot then enter_place files node.file (place.At node.node) c.stacks else None
begin files (After spot) c = if spot_eq spot c.spot then Some c else None

-- the configuration after the start and these edges
abbrev pub run_from : List Graph → Start → List EdgeAt → Config → Option Config
run_from files start es c = option_and_then (λ (first : Config). run files first es) (begin files start c)

-- the greatest number of symbols on the run of these edges, its first configuration included
abbrev pub highest : List Graph → Config → List EdgeAt → ℕ
highest files c [] = length c.stacks.symbols
highest files c (e ∷ es) =
    max (length c.stacks.symbols) (option_map_or (λ (next : Config). highest files next es) (step files c e) 0)

-- the greatest number of symbols on the run from the start, the configuration before it included
abbrev pub highest_from : List Graph → Start → List EdgeAt → Config → ℕ
highest_from files start es c =
    max (length c.stacks.symbols) (option_map_or (λ (first : Config). highest files first es) (begin files start c) 0)

-- whether walks of these files start after this spot: at the root, at their exported scopes and turning nodes
abbrev pub is_cut_spot_of : List Graph → Spot → Bool
is_cut_spot_of files spot.Root = true
is_cut_spot_of files (spot.At node) = is_cut_of files node.file (place.At node.node)

-- whether walks of these files start there: before a reference, or after a cut spot
abbrev pub starts_walks_of : List Graph → Start → Bool
starts_walks_of files (Before node) = is_reference_of files node.file node.node
starts_walks_of files (After spot) = is_cut_spot_of files spot

-- the same of one file, whose number is 0
abbrev pub is_cut_spot : Graph → Spot → Bool
is_cut_spot g spot.Root = true
is_cut_spot g (spot.At node) = nat_eq node.file 0 && is_cut g (place.At node.node)

-- whether walks of the one file start there
abbrev pub starts_walks : Graph → Start → Bool
starts_walks g (Before node) = nat_eq node.file 0 && is_reference g.nodes node.node
starts_walks g (After spot) = is_cut_spot g spot

-- no edge but the last is a cut edge
abbrev pub IsUncut : List Graph → List EdgeAt → Type 0
IsUncut files [] = ⊤
IsUncut files (e ∷ []) = ⊤
IsUncut files (e ∷ next ∷ es) = (is_cut_edge files e ≡ false) × IsUncut files (next ∷ es)

-- a walk: from a start, some edges of which at most the last is a cut edge, that can be followed with some stacks
pub record IsWalk (g : Graph) (start : Start) (es : List EdgeAt) : Type 0 where
  pub begins : IsTrue (starts_walks g start)
  pub nonempty : es ≢ []
  pub uncut : IsUncut (alone g) es
  pub runs : (c : Config) × IsSome (run_from (alone g) start es c)

-- whether the place is a definition of that file
abbrev pub is_definition_place : List Graph → ℕ → Place → Bool
is_definition_place files file place.Root = false
is_definition_place files file place.Jump = false
is_definition_place files file (place.At n) = is_definition_of files file n

-- whether a path may land after the edge: it is a cut edge, or its sink is a definition
abbrev pub lands_after : List Graph → EdgeAt → Bool
lands_after files e =
    is_cut_edge files e || option_map_or (λ (edge : Edge). is_definition_place files e.file edge.sink) (edge_of files e.file e.edge) false

-- whether the last edge is one after which a path may land
abbrev pub ends_landing : List Graph → List EdgeAt → Bool
ends_landing files [] = false
ends_landing files (e ∷ []) = lands_after files e
ends_landing files (e ∷ next ∷ es) = ends_landing files (next ∷ es)

-- a landing walk: its last edge is a cut edge, or ends at a definition
pub record IsLandingWalk (g : Graph) (start : Start) (es : List EdgeAt) : Type 0 where
  pub walk : IsWalk g start es
  pub lands : IsTrue (ends_landing (alone g) es)

-- a start and edges from there
pub record Walk : Type 0 where
  pub start : Start
  pub edges : List EdgeAt

-- the walk of that start and these edges
abbrev pub walk_of : Start → List EdgeAt → Walk
walk_of start edges = record { start = start; edges = edges }

-- walks of the file, each once
pub record AreWalks (g : Graph) (walks : List Walk) : Type 0 where
  pub each : AllByRecursion (λ (w : Walk). IsWalk g w.start w.edges) walks
  pub once : IsApart walks

-- how many edges these walks have together
abbrev pub edges_of : List Walk → ℕ
edges_of walks = sum_by (λ (w : Walk). length w.edges) walks

-- the file's weight: how many edges all its walks have together
abbrev pub IsWeight : Graph → ℕ → Type 0
IsWeight g weight =
    (walks : List Walk) × AreWalks g walks
    × ((start : Start) (es : List EdgeAt) → IsWalk g start es → Contains walks (walk_of start es))
    × (weight ≡ edges_of walks)

-- the file's weight is above the limit: some of its walks have more edges together
abbrev pub IsHeavier : ℕ → Graph → Type 0
IsHeavier limit g = (walks : List Walk) × AreWalks g walks × (limit < edges_of walks)
