-- What finding a file's paths meets on its way. No public clause cites this.
use Rattle.std.specs.Prelude.{◌≡◌, ◌≤◌, ◌+◌, ◌-◌, ℕ, zero, suc, List, [], ◌∷◌, ◌++◌, length, map, filter, Bool, true, false, if◌then◌else◌, IsTrue, IfSome, Contains, Option, Some, None, option_to_list, slice_get}
use Rattle.std.specs.List.{AllByRecursion}
use Rattle.graph_nodes.specs.Graph.{Graph, is_reference}
use Rattle.graph_nodes.specs.Cut.{is_cut}
use Rattle.graph_nodes.specs.Out.{edges_from}
use Rattle.graph_nodes.specs.declared.node.Edge.{Edge}
use Rattle.graph_nodes.specs.declared.node.Place.{Place}
use Rattle.graph_nodes.specs.declared.node.Place.TheVariants as place
use Rattle.partial_path.specs.declared.config.EdgeAt.{EdgeAt}
use Rattle.partial_path.specs.declared.config.Spot.TheVariants as spot
use Rattle.partial_path.specs.declared.rule.Start.{Start}
use Rattle.partial_path.specs.declared.rule.Start.TheVariants.{Before, After}
use Rattle.partial_path.specs.Spots.{node_at}
use Rattle.partial_path.specs.Rules.{Rule}
use Rattle.partial_path.specs.Walks.{alone, ends_landing, starts_walks, IsUncut, IsWalk, Walk, edges_of}
use Rattle.partial_path.specs.PathSets.{IsRuleOf, walk_of_rule}
use Rattle.path_join.specs.Units.{edge_alone}
use Rattle.file_paths.specs.Walking.{ends_cut, no_edges, one_more, AreFirst, AreLonger, IsUnderWay}

-- the path has at most so many edges, and its peak is at most one above their number
pub record IsShort (limit : ℕ) (p : Rule) : Type 0 where
  pub edges : length p.edges ≤ limit
  pub peak : p.peak ≤ length p.edges + 1

-- walks of the file may go on from the rule's: it starts where walks do, and has no cut edge
pub record MayGoOn (g : Graph) (p : Rule) : Type 0 where
  pub exact : IsRuleOf g p
  pub begins : IsTrue (starts_walks g p.start)
  pub uncut : IsUncut (alone g) p.edges
  pub on : ends_cut (alone g) p.edges ≡ false

-- a walk goes on only by edges of the file that leave this place
abbrev pub GoesOnFrom : Graph → Walk → Place → Type 0
GoesOnFrom g w from =
    (e : EdgeAt) → IsWalk g w.start (w.edges ++ e ∷ []) → (i : ℕ) × (e ≡ edge_alone i) × Contains (edges_from g from) i

-- the rule is that of the walk with the edge more
pub record IsLongerRule (g : Graph) (w : Walk) (i : ℕ) (j : Rule) : Type 0 where
  pub same : walk_of_rule j ≡ one_more w (edge_alone i)
  pub walk : IsWalk g j.start j.edges
  pub exact : IsRuleOf g j

-- rules for all walks of one edge more, one each
pub record AreLongerRules (g : Graph) (w : Walk) (longer : List Rule) : Type 0 where
  pub walks : AreLonger g w (map walk_of_rule longer)
  pub exact : AllByRecursion (IsRuleOf g) longer

-- such rules were added to these
abbrev pub AddsLonger : Graph → Walk → List Rule → List Rule → Type 0
AddsLonger g w old new = (longer : List Rule) × AreLongerRules g w longer × (new ≡ old ++ longer)

-- a rule of the walk with the edge more was added to these, where there is such a walk, and else none
pub record AddsFound (g : Graph) (w : Walk) (i : ℕ) (old : List Rule) (new : List Rule) : Type 0 where
  pub found : Option Rule
  pub joined : IfSome found (IsLongerRule g w i)
  pub none : found ≡ None → ¬ IsWalk g w.start (w.edges ++ edge_alone i ∷ [])
  pub added : new ≡ old ++ option_to_list found

-- the rule, where its walk is a landing one
abbrev pub if_landing : Graph → Rule → List Rule
if_landing g p = if ends_landing (alone g) p.edges then p ∷ [] else []

-- the last of the edges: an edge of the file
pub record EndsWith (g : Graph) (es : List EdgeAt) : Type 0 where
  pub before : List EdgeAt
  pub last : ℕ
  pub edge : Edge
  pub is : es ≡ before ++ edge_alone last ∷ []
  pub there : slice_get g.edges last ≡ Some edge

-- the last of the edges leads to this place
abbrev pub LeadsTo : Graph → List EdgeAt → Place → Type 0
LeadsTo g es to = (last : EndsWith g es) × (last.edge.sink ≡ to)

-- rules for the walks of one edge from these starts
pub record AreFirstRules (g : Graph) (starts : List Start) (first : List Rule) : Type 0 where
  pub walks : AreFirst g starts (map walk_of_rule first)
  pub exact : AllByRecursion (IsRuleOf g) first

-- the start before a node of the file alone, and the one after it
abbrev pub before_node : ℕ → Start
before_node n = Before (node_at 0 n)

abbrev pub after_node : ℕ → Start
after_node n = After (spot.At (node_at 0 n))

-- the start, where the test passes
abbrev pub start_if : Bool → Start → List Start
start_if passes start = if passes then start ∷ [] else []

-- the start before the node, where it is a reference, and the one after it, where it is a cut node
abbrev pub before_at : Graph → ℕ → List Start
before_at g n = start_if (is_reference g.nodes n) (before_node n)

abbrev pub after_at : Graph → ℕ → List Start
after_at g n = start_if (is_cut g (place.At n)) (after_node n)

-- the starts given at the last so many of the first n nodes, from the last node down
abbrev pub starts_down : (ℕ → List Start) → ℕ → ℕ → List Start
starts_down at n zero = []
starts_down at n (suc k) = starts_down at n k ++ at (n - suc k)

-- the file's starts, the greatest first: those after its nodes, of which the last so many were looked at; the
-- one after the root too; and then those before its nodes
abbrev pub starts_after : Graph → ℕ → List Start
starts_after g k = starts_down (after_at g) (length g.nodes) k

abbrev pub starts_rooted : Graph → List Start
starts_rooted g = starts_after g (length g.nodes) ++ After spot.Root ∷ []

abbrev pub starts_before : Graph → ℕ → List Start
starts_before g k = starts_rooted g ++ starts_down (before_at g) (length g.nodes) k

abbrev pub all_starts : Graph → List Start
all_starts g = starts_before g (length g.nodes)

-- rules for the walks of one edge from the start were added to these, where the test passes, and else none
pub record AddsFirst (g : Graph) (passes : Bool) (start : Start) (old : List Rule) (new : List Rule) : Type 0 where
  pub some : passes ≡ true → AddsLonger g (no_edges start) old new
  pub none : passes ≡ false → new ≡ old

-- some walks are noted: these are rules of the landing ones, and so many edges and walks they are; and these
-- are rules of the begun ones
pub record IsFinding (g : Graph) (rules : List Rule) (begun : List Rule) (weight : ℕ) (count : ℕ) : Type 0 where
  pub noted : List Walk
  pub way : IsUnderWay g noted (map walk_of_rule begun)
  pub landed : map walk_of_rule rules ≡ filter (λ (w : Walk). ends_landing (alone g) w.edges) noted
  pub exact : AllByRecursion (IsRuleOf g) rules
  pub ahead : AllByRecursion (IsRuleOf g) begun
  pub weighs : weight ≡ edges_of noted
  pub counts : count ≡ length noted
