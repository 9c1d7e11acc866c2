-- Laws of the definitions: what cut edges and counted runs are for, which path set is known at once, what a
-- file's rules are in a list of files, and which of them a look-up offers.
use Rattle.std.specs.Prelude.{◌≡◌, ◌≢◌, ◌≤◌, ◌↔◌, ℕ, List, [], ◌∷◌, ◌++◌, map, filter, Some, slice_get, All, IsTrue, IsSome, Contains, ◌⊎◌, ⊤, length}
use Rattle.std.specs.List.{AllByRecursion, list_any}
use Rattle.graph_nodes.specs.declared.node.Edge.{Edge}
use Rattle.graph_nodes.specs.declared.node.Place.{Place}
use Rattle.graph_nodes.specs.Graph.{Graph}
use Rattle.graph_nodes.specs.Cut.{is_cut}
use Rattle.graph_nodes.specs.Whole.{node_of}
use Rattle.partial_path.specs.declared.config.Config.{Config}
use Rattle.partial_path.specs.declared.config.EdgeAt.{EdgeAt}
use Rattle.partial_path.specs.declared.config.Spot.{Spot}
use Rattle.partial_path.specs.declared.config.Spot.TheVariants as spot
use Rattle.partial_path.specs.declared.rule.Start.{Start}
use Rattle.partial_path.specs.declared.rule.Start.TheVariants.{Before, After}
use Rattle.stacks_vars.specs.declared.scopes.NodeAt.{NodeAt}
use Rattle.stacks_vars.specs.declared.items.SymbolItem.{SymbolItem}
use Rattle.stacks_vars.specs.Enter.{no_stacks}
use Rattle.partial_path.specs.declared.bounds.Bounds.{Bounds}
use Rattle.partial_path.specs.Spots.{node_at, at_node}
use Rattle.partial_path.specs.Step.{start, is_cut_edge}
use Rattle.partial_path.specs.Runs.{run, after_cuts, IsApart, IsStraight, IsClosed, IsBounded, IsAtDefinition}
use Rattle.partial_path.specs.Counted.{IsCounted, IsComplete}
use Rattle.partial_path.specs.Walks.{run_from, highest_from, is_cut_spot_of, starts_walks, starts_walks_of, IsWeight}
use Rattle.partial_path.specs.Rules.{Rule}
use Rattle.partial_path.specs.Apply.{apply, height}
use Rattle.partial_path.specs.Moved.{moved_edge, moved_start, moved}
use Rattle.partial_path.specs.FileNumbers.{StartIn}
use Rattle.partial_path.specs.PathSets.{FileRules, IsRuleOf, IsPathSet}
use Rattle.partial_path.specs.Cutting.{IsStoredIn, path_edges, LeadFrom, edge_count, heights, landings, at_cuts}
use Rattle.partial_path.specs.Sources.{IsSourceFile, graphs_of, is_offered, numbered, rules_offered, rules_offered_in}

-- a closed and straight run
pub record IsClosedStraight (files : List Graph) (c : Config) (es : List EdgeAt) : Type 0 where
  pub runs : IsSome (run files c es)
  pub closed : IsClosed files es
  pub straight : IsStraight files c es

-- a prefix of a counted run that ends with a cut edge is a closed and straight run
abbrev pub CutPrefixesAreClosed : Type 0
CutPrefixesAreClosed =
    (files : List Graph) (c : Config) (before : List EdgeAt) (last : EdgeAt) (after : List EdgeAt)
    → IsCounted files c (before ++ last ∷ [] ++ after) → IsTrue (is_cut_edge files last)
    → IsClosedStraight files c (before ++ last ∷ [])

-- the edges lead from the one place to the other: each leaves the place that the one before it enters
abbrev pub Leads : Place → List Edge → Place → Type 0
Leads origin [] target = origin ≡ target
Leads origin (e ∷ es) target = (e.source ≡ origin) × Leads e.sink es target

-- a cycle within a file: some of its edges, at least one, that lead from a place back to it
pub record IsCycle (g : Graph) (es : List Edge) : Type 0 where
  pub nonempty : es ≢ []
  pub edges : AllByRecursion (Contains g.edges) es
  pub back : (place : Place) × Leads place es place

-- every cycle within a file meets a cut node: an edge of it has a cut place as its sink
abbrev pub CyclesAreCut : Type 0
CyclesAreCut = (g : Graph) (es : List Edge) → IsCycle g es → IsTrue (list_any (λ (e : Edge). is_cut g e.sink) es)

-- a graph without edges has no walk: no rules are its path set, and its weight is 0
abbrev pub NoEdgesNoWalks : Type 0
NoEdgesNoWalks = (g : Graph) → g.edges ≡ [] → IsPathSet g [] × IsWeight g 0

-- the rule moved to that place in the files stands for the run of its edges, moved there: applying it is that
-- run on every configuration, and its peak is exact wherever it applies
pub record IsMovedRun (files : List Graph) (base : ℕ) (rule : Rule) : Type 0 where
  pub applies : (c : Config) → apply (moved base rule) c ≡ run_from files (moved_start base rule.start) (map (moved_edge base) rule.edges) c
  pub peak : (c : Config) → IsSome (apply (moved base rule) c)
      → height (moved base rule) c ≡ highest_from files (moved_start base rule.start) (map (moved_edge base) rule.edges) c

-- a rule of one file, moved to the file's place in a list of files, is the run of its edges there
abbrev pub MovedRulesAreRuns : Type 0
MovedRulesAreRuns =
    (files : List Graph) (base : ℕ) (g : Graph) (rule : Rule) → slice_get files base ≡ Some g → IsRuleOf g rule → IsMovedRun files base rule

-- walks of one file start where walks of a list of files start that has the file at that place, moved there
abbrev pub MovedStartsAreStarts : Type 0
MovedStartsAreStarts =
    (files : List Graph) (base : ℕ) (g : Graph) (start : Start) → slice_get files base ≡ Some g → StartIn (λ (file : ℕ). file ≡ 0) start
    → starts_walks_of files (moved_start base start) ≡ starts_walks g start

-- of the rules of a list of files, one that applies to a configuration is offered at its start to the
-- configuration's symbols
abbrev pub AppliedRulesAreOffered : Type 0
AppliedRulesAreOffered =
    (files : List FileRules) (file : ℕ) (f : FileRules) (rule : Rule) (c : Config) → slice_get files file ≡ Some f → Contains f.rules rule
    → IsSome (apply (moved file rule) c) → Contains (rules_offered files (moved_start file rule.start) c.stacks.symbols) (file, rule)

-- and what is offered at a start are stored paths that begin there
abbrev pub OfferedRulesAreStored : Type 0
OfferedRulesAreStored =
    (files : List FileRules) (start : Start) (symbols : List SymbolItem) (p : ℕ × Rule) → Contains (rules_offered files start symbols) p
    → IsStoredIn files p × (moved_start p.0 p.1.start ≡ start)

-- at the root each file offers what it offers alone; and what is offered at another start, of one file, is what
-- that file alone offers
pub record AreOwnOffers : Type 0 where
  pub root : (file : ℕ) (f : FileRules) (symbols : List SymbolItem)
      → rules_offered_in file f (After spot.Root) symbols ≡ map (numbered file) (filter (is_offered (After spot.Root) symbols) f.rules)
  pub before : (files : List FileRules) (file : ℕ) (f : FileRules) (node : ℕ) (symbols : List SymbolItem) → All IsSourceFile files → slice_get files file ≡ Some f
      → rules_offered files (Before (node_at file node)) symbols ≡ map (numbered file) (filter (is_offered (Before (node_at 0 node)) symbols) f.rules)
  pub after : (files : List FileRules) (file : ℕ) (f : FileRules) (node : ℕ) (symbols : List SymbolItem) → All IsSourceFile files → slice_get files file ≡ Some f
      → rules_offered files (After (spot.At (node_at file node))) symbols ≡ map (numbered file) (filter (is_offered (After (spot.At (node_at 0 node))) symbols) f.rules)

-- stored paths, not none, that lead from the reference to there, with those edges
pub record AreCutsOf (files : List FileRules) (r : NodeAt) (es : List EdgeAt) (end : Config) (paths : List (ℕ × Rule)) : Type 0 where
  pub nonempty : paths ≢ []
  pub leads : LeadFrom files r paths end
  pub edges : path_edges paths ≡ es

-- a counted run from the start of a reference is cut into such paths
abbrev pub CountedRunsAreCut : Type 0
CountedRunsAreCut =
    (files : List FileRules) (r : NodeAt) (c end : Config) (es : List EdgeAt) → All IsSourceFile files → start (graphs_of files) r ≡ Some c
    → IsCounted (graphs_of files) c es → run (graphs_of files) c es ≡ Some end → (paths : List (ℕ × Rule)) × AreCutsOf files r es end paths

-- the edges of the paths, not none, are a run to there
pub record IsRunTo (files : List FileRules) (c : Config) (paths : List (ℕ × Rule)) (end : Config) : Type 0 where
  pub runs : run (graphs_of files) c (path_edges paths) ≡ Some end
  pub nonempty : path_edges paths ≢ []

-- stored paths that lead from a reference, one after the other, are a run from its start
abbrev pub PathsAreRuns : Type 0
PathsAreRuns =
    (files : List FileRules) (r : NodeAt) (c end : Config) (paths : List (ℕ × Rule)) → All IsSourceFile files → start (graphs_of files) r ≡ Some c
    → paths ≢ [] → LeadFrom files r paths end → IsRunTo files c paths end

-- where two such lists of paths from a reference have the same edges, they are the same
abbrev pub CutsAreUnique : Type 0
CutsAreUnique =
    (files : List FileRules) (r : NodeAt) (end other : Config) (paths more : List (ℕ × Rule)) → All IsSourceFile files
    → LeadFrom files r paths end → LeadFrom files r more other → path_edges paths ≡ path_edges more → paths ≡ more

-- the paths lead somewhere, and their edges end with a cut edge
pub record LeadToCut (files : List FileRules) (r : NodeAt) (paths : List (ℕ × Rule)) : Type 0 where
  pub leads : (end : Config) × LeadFrom files r paths end
  pub closed : IsClosed (graphs_of files) (path_edges paths)

-- the first paths of such a list, not none and not all, lead somewhere themselves, and end with a cut edge
abbrev pub BeginningsAreCut : Type 0
BeginningsAreCut =
    (files : List FileRules) (r : NodeAt) (end : Config) (before : List (ℕ × Rule)) (next : ℕ × Rule) (after : List (ℕ × Rule)) → All IsSourceFile files
    → before ≢ [] → LeadFrom files r (before ++ next ∷ after) end → LeadToCut files r before

-- the run of such a list is bounded exactly where its paths have few enough edges together and none is too high
abbrev pub JoinedBounds : Type 0
JoinedBounds =
    (bounds : Bounds) (files : List FileRules) (r : NodeAt) (c end : Config) (paths : List (ℕ × Rule)) → All IsSourceFile files
    → start (graphs_of files) r ≡ Some c → paths ≢ [] → LeadFrom files r paths end
    → IsBounded bounds (graphs_of files) c (path_edges paths) ↔ ((edge_count paths ≤ bounds.edges) × (heights (at_node r no_stacks) paths ≤ bounds.depth))

-- the paths make a straight run: no two are equal of the start and the configurations where they land at cuts
abbrev pub AreStraightPaths : List FileRules → NodeAt → Config → List (ℕ × Rule) → Type 0
AreStraightPaths files r c paths = IsApart (c ∷ at_cuts (graphs_of files) (landings (at_node r no_stacks) paths))

-- the run of such a list, told by where its paths land: the configurations after its cut edges are those that stand
-- at cuts, it is closed exactly where its end does, and so the landings tell whether it is complete or counted
pub record IsToldByLandings (files : List FileRules) (r : NodeAt) (c end : Config) (paths : List (ℕ × Rule)) : Type 0 where
  pub cuts : after_cuts (graphs_of files) c (path_edges paths) ≡ at_cuts (graphs_of files) (landings (at_node r no_stacks) paths)
  pub closed : IsClosed (graphs_of files) (path_edges paths) ↔ IsTrue (is_cut_spot_of (graphs_of files) end.spot)
  pub complete : IsComplete (graphs_of files) c (path_edges paths) ↔ (AreStraightPaths files r c paths × IsAtDefinition (graphs_of files) end)
  pub counted : IsCounted (graphs_of files) c (path_edges paths)
      ↔ (AreStraightPaths files r c paths × (IsTrue (is_cut_spot_of (graphs_of files) end.spot) ⊎ IsAtDefinition (graphs_of files) end))

-- what runs the paths of such a list make is told by where they land
abbrev pub LandingsTell : Type 0
LandingsTell =
    (files : List FileRules) (r : NodeAt) (c end : Config) (paths : List (ℕ × Rule)) → All IsSourceFile files → start (graphs_of files) r ≡ Some c
    → paths ≢ [] → LeadFrom files r paths end → IsToldByLandings files r c end paths

-- a spot of the files: the root, or one of their nodes
abbrev pub IsSpotOf : List Graph → Spot → Type 0
IsSpotOf files spot.Root = ⊤
IsSpotOf files (spot.At node) = IsSome (node_of files node.file node.node)

-- a run from a reference ends at such a spot
abbrev pub RunsEndInFiles : Type 0
RunsEndInFiles =
    (files : List FileRules) (r : NodeAt) (c end : Config) (es : List EdgeAt) → All IsSourceFile files → start (graphs_of files) r ≡ Some c
    → es ≢ [] → run (graphs_of files) c es ≡ Some end → IsSpotOf (graphs_of files) end.spot

-- the configuration is at the node, with one symbol and no scopes
pub record IsAtStart (r : NodeAt) (c : Config) : Type 0 where
  pub spot : c.spot ≡ spot.At r
  pub one : length c.stacks.symbols ≡ 1
  pub none : c.stacks.scopes ≡ []

-- a run comes back to its start, a reference, exactly where it comes back to that node with one symbol and no scopes
abbrev pub ReturnsAreStarts : Type 0
ReturnsAreStarts =
    (files : List FileRules) (r : NodeAt) (c end : Config) (es : List EdgeAt) → All IsSourceFile files → start (graphs_of files) r ≡ Some c
    → es ≢ [] → run (graphs_of files) c es ≡ Some end → (end ≡ c) ↔ IsAtStart r end
