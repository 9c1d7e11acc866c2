-- Laws of stored paths that apply one after the other from any start of walks, on stacks that hold exported scopes
-- alone; and of a moved path that is applied as it is.
use Rattle.std.specs.Prelude.{◌≡◌, ◌≢◌, ℕ, List, [], Bool, false, Option, Some, None, slice_get, All, IsTrue, ⊤, ◌⊎◌}
use Rattle.std.specs.Option.{option_map_or}
use Rattle.std.specs.List.{AllByRecursion}
use Rattle.graph_nodes.specs.Graph.{Graph, is_exported}
use Rattle.stacks_vars.specs.declared.scopes.NodeAt.{NodeAt}
use Rattle.stacks_vars.specs.declared.items.SymbolItem.{SymbolItem}
use Rattle.stacks_vars.specs.declared.stacks.Stacks.{Stacks}
use Rattle.partial_path.specs.declared.config.Config.{Config}
use Rattle.partial_path.specs.declared.config.EdgeAt.{EdgeAt}
use Rattle.partial_path.specs.declared.rule.Start.{Start}
use Rattle.partial_path.specs.Spots.{is_definition_spot}
use Rattle.partial_path.specs.Runs.{IsClosed}
use Rattle.partial_path.specs.Walks.{run_from, highest_from, starts_walks_of}
use Rattle.partial_path.specs.Rules.{Rule}
use Rattle.partial_path.specs.Moved.{moved}
use Rattle.partial_path.specs.PathSets.{FileRules}
use Rattle.partial_path.specs.Cutting.{path_edges, PathsLead, heights}
use Rattle.partial_path.specs.Sources.{IsSourceFile, graphs_of}

-- whether the files have an exported scope there
abbrev pub is_exported_of : List Graph → ℕ → ℕ → Bool
is_exported_of files file n = option_map_or (λ (g : Graph). is_exported g.nodes n) (slice_get files file) false

-- the node is an exported scope of the files
abbrev pub IsExportedScope : List Graph → NodeAt → Type 0
IsExportedScope files node = IsTrue (is_exported_of files node.file node.node)

-- so is each scope that is attached to a symbol; a plain one has none
abbrev pub AreExportedScopes : List Graph → Option (List NodeAt) → Type 0
AreExportedScopes files None = ⊤
AreExportedScopes files (Some scopes) = AllByRecursion (IsExportedScope files) scopes

-- the same of a symbol on a stack
abbrev pub AttachesExported : List Graph → SymbolItem → Type 0
AttachesExported files item = AreExportedScopes files item.scopes

-- the stacks hold no scopes but exported scopes of the files
abbrev pub HoldExported : List Graph → Stacks → Type 0
HoldExported files s = AllByRecursion (AttachesExported files) s.symbols × AllByRecursion (IsExportedScope files) s.scopes

-- stored paths, not none, that lead from the start, with those stacks, to there, and have those edges
pub record AreCutsFrom (files : List FileRules) (start : Start) (c : Config) (es : List EdgeAt) (end : Config) (paths : List (ℕ × Rule)) : Type 0 where
  pub nonempty : paths ≢ []
  pub leads : PathsLead files start c paths end
  pub edges : path_edges paths ≡ es

-- a run from any start of walks, on stacks that hold exported scopes alone, that is closed or ends at a definition, is
-- cut into such paths
abbrev pub LandingRunsAreCut : Type 0
LandingRunsAreCut =
    (files : List FileRules) (start : Start) (c end : Config) (es : List EdgeAt) → All IsSourceFile files → IsTrue (starts_walks_of (graphs_of files) start)
    → HoldExported (graphs_of files) c.stacks → es ≢ [] → run_from (graphs_of files) start es c ≡ Some end
    → IsClosed (graphs_of files) es ⊎ IsTrue (is_definition_spot (graphs_of files) end.spot) → (paths : List (ℕ × Rule)) × AreCutsFrom files start c es end paths

-- where two such lists of paths have the same start and the same edges, they are the same, whatever the stacks
abbrev pub CutsFromAreUnique : Type 0
CutsFromAreUnique =
    (files : List FileRules) (start : Start) (c d end other : Config) (paths more : List (ℕ × Rule)) → All IsSourceFile files
    → PathsLead files start c paths end → PathsLead files start d more other → path_edges paths ≡ path_edges more → paths ≡ more

-- the edges of the paths, not none, are a run from a start of walks to there, as high as the paths are
pub record IsRunFrom (files : List FileRules) (start : Start) (c : Config) (paths : List (ℕ × Rule)) (end : Config) : Type 0 where
  pub starts : IsTrue (starts_walks_of (graphs_of files) start)
  pub runs : run_from (graphs_of files) start (path_edges paths) c ≡ Some end
  pub nonempty : path_edges paths ≢ []
  pub high : heights c paths ≡ highest_from (graphs_of files) start (path_edges paths) c

-- stored paths that lead from anywhere, one after the other, are such a run
abbrev pub LeadingPathsAreRuns : Type 0
LeadingPathsAreRuns =
    (files : List FileRules) (start : Start) (c end : Config) (paths : List (ℕ × Rule)) → All IsSourceFile files → paths ≢ []
    → PathsLead files start c paths end → IsRunFrom files start c paths end

-- such paths leave no scopes on the stacks but exported ones, where there were no others
abbrev pub ExportedScopesStay : Type 0
ExportedScopesStay =
    (files : List FileRules) (start : Start) (c end : Config) (paths : List (ℕ × Rule)) → All IsSourceFile files
    → PathsLead files start c paths end → HoldExported (graphs_of files) c.stacks → HoldExported (graphs_of files) end.stacks

-- a path moved by 0 is itself: so one that was moved to its file's place is applied as it is
abbrev pub MovedByNothingStays : Type 0
MovedByNothingStays = (rule : Rule) → moved 0 rule ≡ rule
