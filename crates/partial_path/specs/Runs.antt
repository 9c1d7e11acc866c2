-- Runs: lists of edges that can be followed one after the other, and what may be said of one. `IsApart` says of a
-- list that no two of its elements are equal.
use Rattle.std.specs.Prelude.{◌≡◌, ℕ, ◌≤◌, List, [], ◌∷◌, ◌++◌, length, Option, Some, if◌then◌else◌, MatchOption, IsTrue, ⊤}
use Rattle.std.specs.Option.{option_and_then, option_map_or}
pub use Rattle.list_facts.specs.Apart.{IsApart}
use Rattle.graph_nodes.specs.Graph.{Graph}
use Rattle.partial_path.specs.declared.config.Config.{Config}
use Rattle.partial_path.specs.declared.config.EdgeAt.{EdgeAt}
use Rattle.partial_path.specs.declared.bounds.Bounds.{Bounds}
use Rattle.partial_path.specs.Spots.{is_definition_spot}
use Rattle.partial_path.specs.Step.{step, is_cut_edge}

-- the configuration after the run of these edges; None where one of them can't be followed
abbrev pub run : List Graph → Config → List EdgeAt → Option Config
run files c [] = Some c
run files c (e ∷ es) = option_and_then (λ (next : Config). run files next es) (step files c e)

-- the configuration, where the path is cut after the edge that led to it
abbrev pub where_cut : List Graph → EdgeAt → Config → List Config
where_cut files e c = if is_cut_edge files e then c ∷ [] else []

-- the configurations after the cut edges of the run
abbrev pub after_cuts : List Graph → Config → List EdgeAt → List Config
after_cuts files c [] = []
after_cuts files c (e ∷ es) =
    option_map_or (λ (next : Config). where_cut files e next ++ after_cuts files next es) (step files c e) []

-- straight: among the start and the configurations after the run's cut edges no two are equal
abbrev pub IsStraight : List Graph → Config → List EdgeAt → Type 0
IsStraight files c es = IsApart (c ∷ after_cuts files c es)

-- closed: the run isn't empty, and its last edge is a cut edge
abbrev pub IsClosed : List Graph → List EdgeAt → Type 0
IsClosed files es =
    (before : List EdgeAt) × (last : EdgeAt) × (es ≡ before ++ last ∷ []) × IsTrue (is_cut_edge files last)

-- every configuration on the run, the start included, has at most so many symbols
abbrev pub IsShallow : ℕ → List Graph → Config → List EdgeAt → Type 0
IsShallow depth files c [] = length c.stacks.symbols ≤ depth
IsShallow depth files c (e ∷ es) =
    (length c.stacks.symbols ≤ depth) × MatchOption (step files c e) ⊤ (λ next. IsShallow depth files next es)

-- bounded: at most so many edges, and nowhere more than so many symbols
pub record IsBounded (bounds : Bounds) (files : List Graph) (c : Config) (es : List EdgeAt) : Type 0 where
  pub edges : length es ≤ bounds.edges
  pub depth : IsShallow bounds.depth files c es

-- the configuration stands at a definition and has no symbols left
pub record IsAtDefinition (files : List Graph) (c : Config) : Type 0 where
  pub definition : IsTrue (is_definition_spot files c.spot)
  pub resolved : c.stacks.symbols ≡ []
