-- References that begin alike: of one file, with one symbol, left by one edge alone that leads to one place. What is
-- found of the one is so of the other.
use Rattle.std.specs.Prelude.{◌≡◌, ℕ, List, [], ◌∷◌, Bool, true, false, Some, slice_get, All}
use Rattle.std.specs.Option.{option_map}
use Rattle.graph_nodes.specs.declared.node.Node.{Node}
use Rattle.graph_nodes.specs.declared.node.NodeKind.{NodeKind}
use Rattle.graph_nodes.specs.declared.node.NodeKind.TheVariants.{Push}
use Rattle.graph_nodes.specs.declared.node.Edge.{Edge}
use Rattle.graph_nodes.specs.declared.node.Place.{Place}
use Rattle.graph_nodes.specs.declared.node.Place.TheVariants.{At}
use Rattle.graph_nodes.specs.Graph.{Graph}
use Rattle.graph_nodes.specs.Cut.{is_cut}
use Rattle.graph_nodes.specs.Out.{edges_from}
use Rattle.stacks_vars.specs.declared.scopes.NodeAt.{NodeAt}
use Rattle.partial_path.specs.declared.bounds.Bounds.{Bounds}
use Rattle.partial_path.specs.PathSets.{FileRules}
use Rattle.partial_path.specs.Sources.{IsSourceFile, graphs_of}
use Rattle.whole_search.specs.declared.found.Hit.{Hit}
use Rattle.nav_answers.specs.declared.twins.Kept.{Kept}
use Rattle.nav_answers.specs.Asking.{IsFound}

-- the kind of the node at the position
abbrev pub HasKind : Graph → ℕ → NodeKind → Type 0
HasKind g n kind = option_map (λ (node : Node). node.kind) (slice_get g.nodes n) ≡ Some kind

-- the sink of the edge at the position
abbrev pub HasSink : Graph → ℕ → Place → Type 0
HasSink g edge sink = option_map (λ (e : Edge). e.sink) (slice_get g.edges edge) ≡ Some sink

-- The node is a reference with this plain symbol, where no path is cut, and one edge alone leaves it, to this place. So
-- all paths of the reference begin with that edge.
pub record BeginsWith (g : Graph) (n : ℕ) (symbol : List ℕ) (sink : Place) : Type 0 where
  pub kind : HasKind g n (Push symbol true)
  pub uncut : is_cut g (At n) ≡ false
  pub edge : ℕ
  pub alone : edges_from g (At n) ≡ edge ∷ []
  pub leads : HasSink g edge sink

-- so it is of a node of the files
pub record IsLead (files : List Graph) (reference : NodeAt) (symbol : List ℕ) (sink : Place) : Type 0 where
  pub graph : Graph
  pub in_files : slice_get files reference.file ≡ Some graph
  pub begins : BeginsWith graph reference.node symbol sink

-- two references of one file begin so
pub record AreTwins (files : List Graph) (a b : NodeAt) : Type 0 where
  pub graph : Graph
  pub symbol : List ℕ
  pub sink : Place
  pub in_files : slice_get files a.file ≡ Some graph
  pub one_file : a.file ≡ b.file
  pub first : BeginsWith graph a.node symbol sink
  pub second : BeginsWith graph b.node symbol sink

-- what is found of the one is found of the other
abbrev pub TwinsAreFoundAlike : Type 0
TwinsAreFoundAlike =
    (bounds : Bounds) (files : List FileRules) (a b : NodeAt) (rows : List Hit) (limit : Bool) → All IsSourceFile files
    → AreTwins (graphs_of files) a b → IsFound bounds (graphs_of files) a rows limit → IsFound bounds (graphs_of files) b rows limit

-- what is kept of a reference that was searched: how its paths begin, and what was found of it
pub record IsKept (bounds : Bounds) (files : List Graph) (kept : Kept) : Type 0 where
  pub lead : IsLead files kept.reference kept.lead.symbol.now (At kept.lead.sink)
  pub found : IsFound bounds files kept.reference kept.found.rows kept.found.limit

-- so it is of several
abbrev pub AreKept : Bounds → List Graph → List Kept → Type 0
AreKept bounds files list = All (IsKept bounds files) list
