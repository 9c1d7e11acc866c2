-- What the definitions of a reference are, and the references of a definition.
use Rattle.std.specs.Prelude.{◌≡◌, ℕ, ◌<◌, List, [], ◌∷◌, map, IsTrue, IsSomeAnd, ◌↔◌, Contains, ◌⊎◌, ⊤}
use Rattle.std.specs.Option.{option_map_or}
use Rattle.std.specs.List.{AllByRecursion}
use Rattle.graph_nodes.specs.declared.node.Edge.{Edge}
use Rattle.graph_nodes.specs.Graph.{Graph}
use Rattle.graph_nodes.specs.Whole.{edge_of}
use Rattle.stacks_vars.specs.declared.scopes.NodeAt.{NodeAt}
use Rattle.partial_path.specs.declared.config.Config.{Config}
use Rattle.partial_path.specs.declared.config.EdgeAt.{EdgeAt}
use Rattle.partial_path.specs.declared.bounds.Bounds.{Bounds}
use Rattle.partial_path.specs.Spots.{is_node, node_at}
use Rattle.partial_path.specs.Step.{start}
use Rattle.partial_path.specs.Runs.{run}
use Rattle.partial_path.specs.Counted.{IsBoundedComplete, IsCrowded, HasLimit}
use Rattle.shadowing.specs.declared.paths.EdgeStep.{EdgeStep}
use Rattle.shadowing.specs.Shadow.{shadows}
use Rattle.whole_search.specs.declared.found.Hit.{Hit}

-- the precedence of an edge of the files
abbrev pub precedence_of : List Graph → EdgeAt → ℕ
precedence_of files e =
    option_map_or (λ (edge : Edge). edge.precedence) (edge_of files e.file e.edge) 0

-- the edge as a step of a path
abbrev pub step_of : List Graph → EdgeAt → EdgeStep
step_of files e =
    record { edge = record { file = e.file; edge = e.edge }; precedence = precedence_of files e }

-- the run's edges as a path
abbrev pub path_of : List Graph → List EdgeAt → List EdgeStep
path_of files es = map (step_of files) es

-- the run ends at this node
abbrev pub EndsAt : List Graph → Config → List EdgeAt → Hit → Type 0
EndsAt files c es hit =
    IsSomeAnd (run files c es) (λ end. IsTrue (is_node hit.file hit.node end.spot))

-- a bounded complete run from here that no bounded complete run from here shadows
pub record IsUnshadowed (bounds : Bounds) (files : List Graph) (c : Config)
    (es : List EdgeAt) : Type 0 where
  pub bounded_complete : IsBoundedComplete bounds files c es
  pub unshadowed : (others : List EdgeAt) → IsBoundedComplete bounds files c others
      → IsTrue (shadows (path_of files others) (path_of files es)) → ⊥

-- the node ends an unshadowed bounded complete run from here
abbrev pub IsDefinitionFrom : Bounds → List Graph → Config → Hit → Type 0
IsDefinitionFrom bounds files c hit =
    (es : List EdgeAt) × IsUnshadowed bounds files c es × EndsAt files c es hit

-- the one row comes before the other: by file and then by position
abbrev pub ComesBefore : Hit → Hit → Type 0
ComesBefore a b = (a.file < b.file) ⊎ ((a.file ≡ b.file) × (a.node < b.node))

-- each row comes before those after it
abbrev pub IsRising : List Hit → Type 0
IsRising [] = ⊤
IsRising (a ∷ rows) = AllByRecursion (ComesBefore a) rows × IsRising rows

-- the rows are exactly the nodes with the property, each once in file order
pub record AreRows (is_row : Hit → Type 0) (rows : List Hit) : Type 0 where
  pub rising : IsRising rows
  pub exact : (hit : Hit) → Contains rows hit ↔ is_row hit

-- the definitions of the paths that start here
abbrev pub AreDefinitions : Bounds → List Graph → Config → List Hit → Type 0
AreDefinitions bounds files c rows = AreRows (IsDefinitionFrom bounds files c) rows

-- the node is a reference of the files, of which that one is a definition
abbrev pub IsReferenceOf : Bounds → List Graph → Hit → Hit → Type 0
IsReferenceOf bounds files definition hit =
    IsSomeAnd (start files (node_at hit.file hit.node))
    (λ c. IsDefinitionFrom bounds files c definition)

-- the references of a definition
abbrev pub AreReferences : Bounds → List Graph → Hit → List Hit → Type 0
AreReferences bounds files definition rows = AreRows (IsReferenceOf bounds files definition) rows

-- some reference of the files is crowded
abbrev pub IsAnyCrowded : Bounds → List Graph → Type 0
IsAnyCrowded bounds files =
    (at : NodeAt) × IsSomeAnd (start files at) (IsCrowded bounds files)

-- some reference of the files has a counted run that isn't bounded
abbrev pub HasAnyLimit : Bounds → List Graph → Type 0
HasAnyLimit bounds files = (at : NodeAt) × IsSomeAnd (start files at) (HasLimit bounds files)
