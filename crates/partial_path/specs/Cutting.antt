-- Runs of the whole graph cut at their cut edges: stored paths that apply one after the other.
use Rattle.std.specs.Prelude.{◌≡◌, ℕ, ◌+◌, List, [], ◌∷◌, map, length, max, filter, Some, slice_get, Contains}
use Rattle.std.specs.Option.{option_map_or}
use Rattle.std.specs.List.{flat_map}
use Rattle.graph_nodes.specs.Graph.{Graph}
use Rattle.partial_path.specs.declared.config.Config.{Config}
use Rattle.partial_path.specs.declared.config.EdgeAt.{EdgeAt}
use Rattle.partial_path.specs.declared.rule.Start.{Start}
use Rattle.partial_path.specs.declared.rule.Start.TheVariants.{Before, After}
use Rattle.stacks_vars.specs.declared.scopes.NodeAt.{NodeAt}
use Rattle.stacks_vars.specs.Enter.{no_stacks}
use Rattle.partial_path.specs.Spots.{at_node}
use Rattle.partial_path.specs.Rules.{Rule}
use Rattle.partial_path.specs.Apply.{apply, height}
use Rattle.partial_path.specs.Walks.{is_cut_spot_of}
use Rattle.partial_path.specs.Moved.{moved_edge, moved_start, moved}
use Rattle.partial_path.specs.PathSets.{FileRules}

-- the path is stored of the file with that number
abbrev pub IsStoredIn : List FileRules → ℕ × Rule → Type 0
IsStoredIn files p = (f : FileRules) × (slice_get files p.0 ≡ Some f) × Contains f.rules p.1

-- the edges of a stored path, moved by its file's number, and those of a list of them
abbrev pub edges_in : ℕ × Rule → List EdgeAt
edges_in p = map (moved_edge p.0) p.1.edges

abbrev pub path_edges : List (ℕ × Rule) → List EdgeAt
path_edges paths = flat_map edges_in paths

-- stored paths apply one after the other, from the one configuration to the other: the first begins at that
-- start, each other one after the spot where the one before it landed
abbrev pub PathsLead : List FileRules → Start → Config → List (ℕ × Rule) → Config → Type 0
PathsLead files start c [] end = c ≡ end
PathsLead files start c (p ∷ paths) end =
    IsStoredIn files p × (moved_start p.0 p.1.start ≡ start)
    × (next : Config) × (apply (moved p.0 p.1) c ≡ Some next) × PathsLead files (After next.spot) next paths end

-- the same from a reference, which isn't entered yet
abbrev pub LeadFrom : List FileRules → NodeAt → List (ℕ × Rule) → Config → Type 0
LeadFrom files r paths end = PathsLead files (Before r) (at_node r no_stacks) paths end

-- how many edges the paths have together
abbrev pub edge_count : List (ℕ × Rule) → ℕ
edge_count [] = 0
edge_count (p ∷ paths) = length p.1.edges + edge_count paths

-- the greatest height of the paths, each at the configuration where it applies
abbrev pub heights : Config → List (ℕ × Rule) → ℕ
heights c [] = length c.stacks.symbols
heights c (p ∷ paths) =
    max (height (moved p.0 p.1) c) (option_map_or (λ (next : Config). heights next paths) (apply (moved p.0 p.1) c) 0)

-- where the paths land, in their order
abbrev pub landings : Config → List (ℕ × Rule) → List Config
landings c [] = []
landings c (p ∷ paths) = option_map_or (λ (next : Config). next ∷ landings next paths) (apply (moved p.0 p.1) c) []

-- the configurations that stand where paths are cut: at the root, at exported scopes and turning nodes
abbrev pub at_cuts : List Graph → List Config → List Config
at_cuts files cs = filter (λ (c : Config). is_cut_spot_of files c.spot) cs
