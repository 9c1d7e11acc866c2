-- What an edge that is followed tells of the spot that it leads to: whether paths are cut there.
use Rattle.std.proofs.Common.{◌≡◌, refl, sym, ap, ◌∙◌, ℕ, List, [], ◌∷◌, ◌++◌, Bool, true, false, Option, Some, None, if◌then◌else◌, eqb, eqb-true}
use Rattle.std.specs.Prelude.{◌||◌, slice_get}
use Rattle.std.specs.Option.{option_map, option_and_then, option_map_or}
use Rattle.std.proofs.lemmas.Bool.{false≢true, and_parts, or_right}
use Rattle.std.proofs.lemmas.Option.{none-some, same_Some, option_and_then_some}
use Rattle.graph_nodes.specs.declared.node.Node.{Node}
use Rattle.graph_nodes.specs.declared.node.Edge.{Edge}
use Rattle.graph_nodes.specs.declared.node.Place.{Place}
use Rattle.graph_nodes.specs.declared.node.Place.TheVariants as place
use Rattle.graph_nodes.specs.Graph.{Graph}
use Rattle.graph_nodes.specs.Cut.{is_cut}
use Rattle.graph_nodes.specs.Whole.{node_of, edge_of, is_cut_of, is_definition_of}
use Rattle.stacks_vars.specs.declared.scopes.NodeAt.{NodeAt}
use Rattle.stacks_vars.specs.declared.stacks.Stacks.{Stacks}
use Rattle.partial_path.specs.declared.config.Spot.{Spot}
use Rattle.partial_path.specs.declared.config.Spot.TheVariants as spot
use Rattle.partial_path.specs.declared.config.Config.{Config}
use Rattle.partial_path.specs.declared.config.EdgeAt.{EdgeAt}
use Rattle.partial_path.specs.declared.rule.Start.{Start}
use Rattle.partial_path.specs.Spots.{node_at, at_node, at_root, is_definition_spot}
use Rattle.partial_path.specs.Step.{enter_node, enter_place, stands_at, follow, step, is_cut_edge}
use Rattle.partial_path.specs.Runs.{run}
use Rattle.partial_path.specs.Walks.{begin, run_from, is_cut_spot_of, is_definition_place, lands_after}
use Rattle.partial_path.specs.FileNumbers.{SpotIn}
use Rattle.partial_path.proofs.Edges.{is_cut_edge-found}
use Rattle.partial_path.proofs.RunsOn.{run-append, run_one}

pub if_some : {X : Type 0} (b : Bool) (o : Option X) (y : X) → (if b then o else None) ≡ Some y → (b ≡ true) × (o ≡ Some y)
if_some true o y h = (refl, h)
if_some false o y h = absurd (none-some y h)

-- an edge that is followed: it is there, leaves where the path stands, and its sink is entered
pub record IsFollowed (files : List Graph) (d next : Config) (e : EdgeAt) : Type 0 where
  pub graph : Graph
  pub edge : Edge
  pub in_files : slice_get files e.file ≡ Some graph
  pub there : edge_of files e.file e.edge ≡ Some edge
  pub in_graph : slice_get graph.edges e.edge ≡ Some edge
  pub stands : stands_at e.file edge.source d.spot ≡ true
  pub enters : enter_place files e.file edge.sink d.stacks ≡ Some next

pub followed_by : (files : List Graph) (d next : Config) (e : EdgeAt) → step files d e ≡ Some next → IsFollowed files d next e
followed_by files d next e h =
    option_and_then_some (λ (edge : Edge). follow files e.file edge d) (edge_of files e.file e.edge) next h
    (λ edge there follows. option_and_then_some (λ (g : Graph). slice_get g.edges e.edge) (slice_get files e.file) edge there
    (λ g in_files in_graph.
    let both = if_some (stands_at e.file edge.source d.spot) (enter_place files e.file edge.sink d.stacks) next follows in record {
      graph = g;
      edge = edge;
      in_files = in_files;
      there = there;
      in_graph = in_graph;
      stands = both.0;
      enters = both.1;
    }))

mapped_spot : (at : NodeAt) (o : Option Stacks) (next : Config) → option_map (at_node at) o ≡ Some next → next.spot ≡ spot.At at
mapped_spot at None next h = absurd (none-some next h)
mapped_spot at (Some s) next h = ap (λ (c : Config). c.spot) (sym (same_Some (at_node at s) next h))

node_spot : (file n : ℕ) (s : Stacks) (o : Option Node) (next : Config) → option_and_then (λ (node : Node). enter_node (node_at file n) node s) o ≡ Some next → next.spot ≡ spot.At (node_at file n)
node_spot file n s None next h = absurd (none-some next h)
node_spot file n s (Some node) next h = mapped_spot (node_at file n) _ next h

-- a node that is entered is where the path stands then
pub entered_spot : (files : List Graph) (file n : ℕ) (s : Stacks) (next : Config) → enter_place files file (place.At n) s ≡ Some next → next.spot ≡ spot.At (node_at file n)
entered_spot files file n s next h = node_spot file n s (node_of files file n) next h

pub root_spot : (s : Stacks) (next : Config) → Some (at_root s) ≡ Some next → next.spot ≡ spot.Root
root_spot s next h = ap (λ (c : Config). c.spot) (sym (same_Some (at_root s) next h))

-- where the sink is no cut, the path stands at a node of the edge's file, where none is cut
abbrev pub IsUncutSpot : Graph → ℕ → Spot → Type 0
IsUncutSpot g file at = (n : ℕ) × (at ≡ spot.At (node_at file n)) × (is_cut g (place.At n) ≡ false)

uncut_place : (files : List Graph) (g : Graph) (file : ℕ) (sink : Place) (s : Stacks) (next : Config) → enter_place files file sink s ≡ Some next → is_cut g sink ≡ false
    → IsUncutSpot g file next.spot
uncut_place files g file place.Root s next h uncut = absurd (false≢true (sym uncut))
uncut_place files g file place.Jump s next h uncut = absurd (false≢true (sym uncut))
uncut_place files g file (place.At n) s next h uncut = (n, entered_spot files file n s next h, uncut)

pub cut_of : (files : List Graph) (file : ℕ) (g : Graph) (p : Place) → slice_get files file ≡ Some g → is_cut_of files file p ≡ is_cut g p
cut_of files file g p there = ap (λ o. option_map_or (λ (g : Graph). is_cut g p) o false) there

-- after an edge that is no cut edge no walk starts
pub uncut_spot : (files : List Graph) (d next : Config) (e : EdgeAt) → step files d e ≡ Some next → is_cut_edge files e ≡ false
    → is_cut_spot_of files next.spot ≡ false
uncut_spot files d next e h uncut =
    let by = followed_by files d next e h in
    let at = uncut_place files by.graph e.file by.edge.sink d.stacks next by.enters (sym (is_cut_edge-found files e by.graph by.edge by.in_files by.in_graph) ∙ uncut) in
    ap (is_cut_spot_of files) at.1 ∙ cut_of files e.file by.graph (place.At at.0) by.in_files ∙ at.2

-- after such an edge the path stands in the edge's file
pub uncut_file : (files : List Graph) (d next : Config) (e : EdgeAt) → step files d e ≡ Some next → is_cut_edge files e ≡ false
    → (n : ℕ) × (next.spot ≡ spot.At (node_at e.file n))
uncut_file files d next e h uncut =
    let by = followed_by files d next e h in
    let at = uncut_place files by.graph e.file by.edge.sink d.stacks next by.enters (sym (is_cut_edge-found files e by.graph by.edge by.in_files by.in_graph) ∙ uncut) in
    (at.0, at.1)

stands_in : (file : ℕ) (p : Place) (at : Spot) → stands_at file p at ≡ true → SpotIn (λ (k : ℕ). k ≡ file) at
stands_in file p spot.Root h = tt
stands_in file place.Root (spot.At node) h = absurd (false≢true h)
stands_in file place.Jump (spot.At node) h = absurd (false≢true h)
stands_in file (place.At n) (spot.At node) h = eqb-true node.file file (and_parts (eqb node.file file) (eqb node.node n) h).0

-- an edge is followed from a spot of its file, or from the root
pub stood_in : (files : List Graph) (d next : Config) (e : EdgeAt) → step files d e ≡ Some next → SpotIn (λ (k : ℕ). k ≡ e.file) d.spot
stood_in files d next e h = let by = followed_by files d next e h in stands_in e.file by.edge.source d.spot by.stands

definition_place : (files : List Graph) (g : Graph) (file : ℕ) (sink : Place) (s : Stacks) (next : Config) → enter_place files file sink s ≡ Some next
    → is_definition_spot files next.spot ≡ true → (is_cut g sink || is_definition_place files file sink) ≡ true
definition_place files g file place.Root s next h is = refl
definition_place files g file place.Jump s next h is = refl
definition_place files g file (place.At n) s next h is =
    or_right (is_cut g (place.At n)) (is_definition_of files file n) (sym (ap (is_definition_spot files) (entered_spot files file n s next h)) ∙ is)

-- after an edge that leads to a definition paths land
pub definition_lands : (files : List Graph) (d next : Config) (e : EdgeAt) → step files d e ≡ Some next → is_definition_spot files next.spot ≡ true
    → lands_after files e ≡ true
definition_lands files d next e h is =
    let by = followed_by files d next e h in
    (λ i. is_cut_edge-found files e by.graph by.edge by.in_files by.in_graph i || option_map_or (λ (edge : Edge). is_definition_place files e.file edge.sink) (by.there i) false)
    ∙ definition_place files by.graph e.file by.edge.sink d.stacks next by.enters is

-- the last step of a run from a start
pub last_step : (files : List Graph) (start : Start) (front : List EdgeAt) (last : EdgeAt) (c next : Config) → run_from files start (front ++ last ∷ []) c ≡ Some next
    → (d : Config) × (step files d last ≡ Some next)
last_step files start front last c next h =
    option_and_then_some (λ (first : Config). run files first (front ++ last ∷ [])) (begin files start c) next h
    (λ first begun ran. option_and_then_some (λ (d : Config). run files d (last ∷ [])) (run files first front) next (sym (run-append files front (last ∷ []) first) ∙ ran)
    (λ d before stepped. (d, sym (run_one files d last) ∙ stepped)))
