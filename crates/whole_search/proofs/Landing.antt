-- A run that lands leads, within its first file, to a place to land at: so the tables tell the live spots.
use Rattle.std.proofs.Common.{◌≡◌, ◌≢◌, ℕ, zero, suc, ◌+◌, ◌<◌, ◌≤◌, Bool, true, false, List, [], ◌∷◌, ◌++◌, length, take, Option, Some, None, IsSome, ◌⊎◌, inl, inr, sym, refl, ap, ◌∙◌, subst, eqb, eqb-true, arith, slice_get, get_or, option_map}
use Rattle.std.specs.Option.{option_map_or}
use Rattle.std.specs.Global.{Vec}
use Rattle.std.proofs.lemmas.Bool.{false≢true, and_parts, or_parts, or_cases, both_ways, cases_Bool, cases_lt}
use Rattle.std.proofs.lemmas.List.{get_or_past, take_more, map-append}
use Rattle.std.proofs.lemmas.Option.{none-some, same_Some, option_and_then_some}
use Rattle.graph_nodes.specs.Graph.{Graph, is_definition}
use Rattle.graph_nodes.specs.Whole.{node_of}
use Rattle.graph_nodes.specs.Cut.{is_cut}
use Rattle.graph_nodes.specs.declared.node.Node.{Node}
use Rattle.graph_nodes.specs.declared.node.Edge.{Edge}
use Rattle.graph_nodes.specs.declared.node.Place.{Place}
use Rattle.graph_nodes.specs.declared.node.Place.TheVariants as place
use Rattle.stacks_vars.specs.declared.scopes.NodeAt.{NodeAt}
use Rattle.stacks_vars.specs.declared.stacks.Stacks.{Stacks}
use Rattle.stacks_vars.specs.Enter.{enter}
use Rattle.partial_path.specs.declared.config.Spot.{Spot}
use Rattle.partial_path.specs.declared.config.Spot.TheVariants.{Root, At}
use Rattle.partial_path.specs.declared.config.Config.{Config}
use Rattle.partial_path.specs.declared.config.EdgeAt.{EdgeAt}
use Rattle.partial_path.specs.Spots.{node_at, at_node, is_definition_spot}
use Rattle.partial_path.specs.Step.{step, stands_at, enter_place, enter_node, action_of}
use Rattle.partial_path.specs.Runs.{run}
use Rattle.partial_path.proofs.Edges.{is_cut_edge-found}
use Rattle.whole_search.specs.Walk.{ends_cut, is_at_definition, is_empty, completes, lands, IsLive}
use Rattle.whole_search.specs.Leads.{is_landing, CanLand, mark_at, AreMarks, AreTables, contents, live_at}
use Rattle.whole_search.proofs.Outs.{Followed, followed}
use Rattle.whole_search.proofs.Prefixes.{first_step, run_one, lands_rest}

-- an edge that was followed from a node leaves it
source_of : (file : ℕ) (source : Place) (node : NodeAt) → stands_at file source (At node) ≡ true → (source ≡ place.At node.node) × (node.file ≡ file)
source_of file place.Root node t = absurd (false≢true t)
source_of file place.Jump node t = absurd (false≢true t)
source_of file (place.At n) node t =
    let parts = and_parts (eqb node.file file) (eqb node.node n) t in
    (ap place.At (sym (eqb-true node.node n parts.1)), eqb-true node.file file parts.0)

-- the node that was entered
spot_entered : (files : List Graph) (file n : ℕ) (stacks : Stacks) (next : Config) → enter_place files file (place.At n) stacks ≡ Some next → next.spot ≡ At (node_at file n)
spot_entered files file n stacks next h =
    option_and_then_some (λ (node : Node). enter_node (node_at file n) node stacks) (node_of files file n) next h
    (λ node node_is enters. spot_of (enter (action_of file node.kind) stacks) enters)
  where
    spot_of : (o : Option Stacks) → option_map (at_node (node_at file n)) o ≡ Some next → next.spot ≡ At (node_at file n)
    spot_of None e = absurd (none-some next e)
    spot_of (Some s) e = ap (λ (x : Config). x.spot) (sym (same_Some (at_node (node_at file n) s) next e))

-- a run of one edge lands only at a place to land at
one_lands : (files : List Graph) (at next : Config) (e : EdgeAt) (g : Graph) (edge : Edge) (m : ℕ) → slice_get files e.file ≡ Some g → slice_get g.edges e.edge ≡ Some edge → edge.sink ≡ place.At m → step files at e ≡ Some next → next.spot ≡ At (node_at e.file m) → is_landing g (place.At m) ≡ false → lands files at (e ∷ []) ≡ true → ⊥
one_lands files at next e g edge m g_is edge_is sink h spot none t =
    by (or_cases (ends_cut files (e ∷ [])) (completes files at (e ∷ [])) t)
  where
    neither : (is_cut g (place.At m) ≡ false) × (is_definition g.nodes m ≡ false)
    neither = or_parts (is_cut g (place.At m)) (is_definition g.nodes m) none

    definition : is_definition_spot files next.spot ≡ false
    definition =
        ap (is_definition_spot files) spot
        ∙ ap (λ (o : Option Graph). option_map_or (λ (x : Graph). is_definition x.nodes m) o false) g_is
        ∙ neither.1

    by : (ends_cut files (e ∷ []) ≡ true) ⊎ (completes files at (e ∷ []) ≡ true) → ⊥
    by (inl cut) =
        both_ways (is_cut g (place.At m)) neither.0
        (sym (is_cut_edge-found files e g edge g_is edge_is ∙ ap (is_cut g) sink) ∙ cut)
    by (inr complete) =
        both_ways (is_definition_spot files next.spot) definition
        (and_parts (is_definition_spot files next.spot) (is_empty next.stacks.symbols)
        (sym (ap (λ (o : Option Config). option_map_or (is_at_definition files) o false) (run_one files at next e h)) ∙ complete)).0

-- what is left of a run that lands, after an edge to a place where none lands
rest_lands : (files : List Graph) (at next : Config) (e : EdgeAt) (g : Graph) (edge : Edge) (m : ℕ) → slice_get files e.file ≡ Some g → slice_get g.edges e.edge ≡ Some edge → edge.sink ≡ place.At m → step files at e ≡ Some next → next.spot ≡ At (node_at e.file m) → is_landing g (place.At m) ≡ false → (rest : List EdgeAt) → lands files at (e ∷ rest) ≡ true → lands files next rest ≡ true
rest_lands files at next e g edge m g_is edge_is sink h spot none [] t =
    absurd (one_lands files at next e g edge m g_is edge_is sink h spot none t)
rest_lands files at next e g edge m g_is edge_is sink h spot none (x ∷ xs) t =
    lands_rest files at next (e ∷ []) x xs (run_one files at next e h) t

-- the graph whose edge was followed from a node is the one of the node's file
same_graph : (files : List Graph) (node : NodeAt) (file : ℕ) (g f : Graph) → node.file ≡ file → slice_get files node.file ≡ Some g → slice_get files file ≡ Some f → f ≡ g
same_graph files node file g f same h k = same_Some f g (sym k ∙ ap (slice_get files) (sym same) ∙ h)

-- from the node where a run starts that lands, edges of its file lead to a place to land at
pub can_land : (files : List Graph) (g : Graph) (es : List EdgeAt) (at : Config) (node : NodeAt) → at.spot ≡ At node → slice_get files node.file ≡ Some g → IsSome (run files at es) → lands files at es ≡ true → CanLand g node.node
can_land files g [] at node spot h runs t = absurd (false≢true t)
can_land files g (e ∷ rest) at node spot h runs t =
    by (λ next m stands there goes left. can_land files g rest next (node_at e.file m) stands there goes left)
    (cases_Bool (is_landing g edge.sink))
  where
    Again : Type 0
    Again =
        (next : Config) (m : ℕ) → next.spot ≡ At (node_at e.file m) → slice_get files e.file ≡ Some g
        → IsSome (run files next rest) → lands files next rest ≡ true → CanLand g m

    first : (next : Config) × (step files at e ≡ Some next) × IsSome (run files next rest)
    first = first_step files at e rest runs

    f : Followed files at e first.0
    f = followed files at e first.0 first.1

    edge : Edge
    edge = f.edge

    stood : (edge.source ≡ place.At node.node) × (node.file ≡ e.file)
    stood = source_of e.file edge.source node (subst (λ (s : Spot). stands_at e.file edge.source s ≡ true) spot f.stands)

    g_is : slice_get files e.file ≡ Some g
    g_is = ap (slice_get files) (sym stood.1) ∙ h

    edge_is : slice_get g.edges e.edge ≡ Some edge
    edge_is = subst (λ (x : Graph). slice_get x.edges e.edge ≡ Some edge) (same_graph files node e.file g f.graph stood.1 h f.graph_is) f.edge_is

    on_node : Again → (m : ℕ) → edge.sink ≡ place.At m → is_landing g (place.At m) ≡ false → enter_place files e.file (place.At m) at.stacks ≡ Some first.0 → CanLand g node.node
    on_node again m sink none enters =
        let there = spot_entered files e.file m at.stacks first.0 enters in
        let left = rest_lands files at first.0 e g edge m g_is edge_is sink first.1 there none rest t in
        let more = again first.0 m there g_is first.2 left in
        (e.edge ∷ more.0, (edge, edge_is, stood.0, inr (m, sink, more.1)))

    on : Again → (sink : Place) → edge.sink ≡ sink → is_landing g sink ≡ false → enter_place files e.file sink at.stacks ≡ Some first.0 → CanLand g node.node
    on again place.Root s none enters = absurd (false≢true (sym none))
    on again place.Jump s none enters = absurd (false≢true (sym none))
    on again (place.At m) s none enters = on_node again m s none enters

    by : Again → (is_landing g edge.sink ≡ true) ⊎ (is_landing g edge.sink ≡ false) → CanLand g node.node
    by again (inl land) = (e.edge ∷ [], (edge, edge_is, stood.0, inl land))
    by again (inr none) = on again edge.sink refl none f.enters

-- the table of a file among the tables
table_of : (files : List Graph) (tables : List (List Bool)) → AreTables files tables → (k : ℕ) (g : Graph) → slice_get files k ≡ Some g → (marks : List Bool) × (slice_get tables k ≡ Some marks) × AreMarks g marks
table_of [] [] all k g h = absurd (none-some g h)
table_of [] (marks ∷ tables) all k g h = absurd all
table_of (f ∷ files) [] all k g h = absurd all
table_of (f ∷ files) (marks ∷ tables) all zero g h = (marks, refl, subst (λ (x : Graph). AreMarks x marks) (same_Some f g h) all.0)
table_of (f ∷ files) (marks ∷ tables) all (suc k) g h = table_of files tables all.1 k g h

marked : (g : Graph) (marks : List Bool) → AreMarks g marks → (n : ℕ) → CanLand g n → mark_at marks n ≡ true
marked g marks are n h = by (cases_lt n (length g.nodes))
  where
    by : (n < length g.nodes) ⊎ (length g.nodes ≤ n) → mark_at marks n ≡ true
    by (inl low) = (are.exact n low).1 h
    by (inr high) = get_or_past marks n true (let e : length marks ≡ length g.nodes = are.one_each in omega arith)

-- the spots that the tables tell are live: nothing that lands is missed
pub IsLive-from_tables : (files : List Graph) (tables : List (List Bool)) → AreTables files tables → IsLive (live_at tables) files
IsLive-from_tables files tables all at es some runs t = by at.spot refl
  where
    in_file : (node : NodeAt) → at.spot ≡ At node → (g : Graph) → slice_get files node.file ≡ Some g → live_at tables (At node) ≡ true
    in_file node spot g h =
        let table = table_of files tables all node.file g h in
        ap (λ (o : Option (List Bool)). option_map_or (λ (marks : List Bool). mark_at marks node.node) o true) table.1
        ∙ marked g table.0 table.2 node.node (can_land files g es at node spot h runs t)

    file_of : (node : NodeAt) → at.spot ≡ At node → (xs : List EdgeAt) → xs ≢ [] → IsSome (run files at xs) → (g : Graph) × (slice_get files node.file ≡ Some g)
    file_of node spot [] n r = absurd (n refl)
    file_of node spot (e ∷ rest) n r =
        let first = first_step files at e rest r in
        let f = followed files at e first.0 first.1 in
        let same = (source_of e.file f.edge.source node (subst (λ (s : Spot). stands_at e.file f.edge.source s ≡ true) spot f.stands)).1 in
        (f.graph, ap (slice_get files) same ∙ f.graph_is)

    by : (spot : Spot) → at.spot ≡ spot → live_at tables at.spot ≡ true
    by Root s = ap (live_at tables) s
    by (At node) s = let g = file_of node s es some runs in ap (live_at tables) s ∙ in_file node s g.0 g.1

-- one more file with its table
pub AreTables-more : (files : List Graph) (tables : List (List Bool)) (g : Graph) (marks : List Bool) → AreTables files tables → AreMarks g marks → AreTables (files ++ g ∷ []) (tables ++ marks ∷ [])
AreTables-more [] [] g marks all one = (one, tt)
AreTables-more [] (other ∷ tables) g marks all one = absurd all
AreTables-more (f ∷ files) [] g marks all one = absurd all
AreTables-more (f ∷ files) (other ∷ tables) g marks all one = (all.0, AreTables-more files tables g marks all.1 one)

-- one more file with its table, as the loop over the files has them
pub AreTables-next : (files : List Graph) (i : ℕ) (g : Graph) (tables new : List (Vec Bool)) (marks : Vec Bool) → i < length files → g ≡ get_or files i g → new ≡ tables ++ marks ∷ [] → AreMarks g marks.items → AreTables (take i files) (contents tables) → AreTables (take (i + 1) files) (contents new)
AreTables-next files i g tables new marks within is pushed one all =
    rw (take_more files i g within, ← is, pushed, map-append)
    (AreTables-more (take i files) (contents tables) g marks.items all one)
