-- Between two cuts a run rises through the positions of one file, so it can't be long.
use Rattle.std.proofs.Common.{◌≡◌, ◌≢◌, ℕ, zero, suc, ◌+◌, ◌<◌, ◌≤◌, min, Bool, true, false, not, ◌||◌, List, [], ◌∷◌, ◌++◌, length, Option, Some, None, IsSome, is_some, sym, refl, ap, ◌∙◌, subst, leb, ltb, eqb, eq-eqb, eqb-true, leb-true, leb-false, ltb-false, arith, slice_get, option_and_then, option_map, if◌then◌else◌, append_assoc, append-nil, length-append, inl, inr, ◌⊎◌, All}
use Rattle.std.specs.List.{list_any, AllByRecursion}
use Rattle.std.proofs.lemmas.Bool.{false≢true, and_parts, and_cases, or_parts, both_ways, cases_Bool}
use Rattle.std.proofs.lemmas.Option.{none-some, same_Some, option_and_then_some, slice_get_within, get_or_from_slice_get}
use Rattle.graph_nodes.specs.Graph.{Graph, is_exported}
use Rattle.graph_nodes.specs.Cut.{turns_between, turns_at, is_turning, is_cut}
use Rattle.graph_nodes.specs.Whole.{node_of}
use Rattle.graph_nodes.specs.Checked.{IsChecked, first_of}
use Rattle.graph_nodes.specs.declared.fault.GraphFault.{GraphFault}
use Rattle.graph_nodes.specs.declared.fault.GraphFault.TheVariants.{TooManyNodes}
use Rattle.graph_nodes.specs.Limits.{max_nodes}
use Rattle.graph_nodes.specs.declared.node.Node.{Node}
use Rattle.graph_nodes.specs.declared.node.Edge.{Edge}
use Rattle.graph_nodes.specs.declared.node.Place.{Place}
use Rattle.graph_nodes.specs.declared.node.Place.TheVariants as place
use Rattle.stacks_vars.specs.declared.stacks.Stacks.{Stacks}
use Rattle.stacks_vars.specs.Enter.{enter}
use Rattle.partial_path.specs.declared.config.Spot.{Spot}
use Rattle.partial_path.specs.declared.config.Spot.TheVariants.{Root, At}
use Rattle.partial_path.specs.declared.config.Config.{Config}
use Rattle.partial_path.specs.declared.config.EdgeAt.{EdgeAt}
use Rattle.partial_path.specs.declared.bounds.Bounds.{Bounds}
use Rattle.partial_path.specs.Spots.{node_at, at_node}
use Rattle.partial_path.specs.Step.{step, stands_at, enter_place, enter_node, action_of, is_cut_edge}
use Rattle.partial_path.specs.Runs.{run}
use Rattle.whole_search.specs.Walk.{ends_cut, is_bounded, with_edge, longest}
use Rattle.partial_path.proofs.Edges.{is_cut_edge-found}
use Rattle.whole_search.proofs.Outs.{followed}
use Rattle.whole_search.proofs.Prefixes.{first_step, run-with_edge, parts_of}
use Rattle.whole_search.proofs.Reflect.{ends_cut-append}

-- no file has more than `max_nodes` nodes
abbrev pub AreSmall : List Graph → Type 0
AreSmall files = (k : ℕ) (g : Graph) → slice_get files k ≡ Some g → length g.nodes ≤ max_nodes

no_fault_above : (n : ℕ) (big : Bool) (rest : Option GraphFault) → first_of (option_map TooManyNodes (if big then Some n else None)) rest ≡ None → big ≡ false
no_fault_above n true rest h = absurd (none-some (TooManyNodes n) (sym h))
no_fault_above n false rest h = refl

-- a checked graph has at most `max_nodes` nodes
pub nodes_of_checked : (g : Graph) → IsChecked g → length g.nodes ≤ max_nodes
nodes_of_checked g h = ltb-false max_nodes (length g.nodes) (no_fault_above (length g.nodes) (ltb max_nodes (length g.nodes)) _ h)

pub AreSmall-from_checked : (files : List Graph) → ((k : ℕ) (g : Graph) → slice_get files k ≡ Some g → IsChecked g) → AreSmall files
AreSmall-from_checked files each k g h = nodes_of_checked g (each k g h)

checked_at : (files : List Graph) → AllByRecursion IsChecked files → (k : ℕ) (g : Graph) → slice_get files k ≡ Some g → IsChecked g
checked_at [] all k g h = absurd (none-some g h)
checked_at (f ∷ files) all zero g h = subst IsChecked (same_Some f g h) all.0
checked_at (f ∷ files) all (suc k) g h = checked_at files all.1 k g h

pub AreSmall-from_recursion : (files : List Graph) → AllByRecursion IsChecked files → AreSmall files
AreSmall-from_recursion files all = AreSmall-from_checked files (checked_at files all)

pub AreSmall-from_All : (files : List Graph) → All IsChecked files → AreSmall files
AreSmall-from_All files all = AreSmall-from_checked files (λ k g h.
    subst IsChecked (get_or_from_slice_get files k g g h) (all k g (slice_get_within files k g h)))

-- how far through its file a spot stands: 0 at the root
abbrev pub rank : Spot → ℕ
rank Root = 0
rank (At node) = suc node.node

list_any-false : {X : Type 0} (p : X → Bool) (xs : List X) (k : ℕ) (x : X) → list_any p xs ≡ false → slice_get xs k ≡ Some x → p x ≡ false
list_any-false p [] k x f h = absurd (none-some x h)
list_any-false p (y ∷ xs) zero x f h = ap p (sym (same_Some y x h)) ∙ (or_parts (p y) (list_any p xs) f).0
list_any-false p (y ∷ xs) (suc k) x f h = list_any-false p xs k x (or_parts (p y) (list_any p xs) f).1 h

-- the node that was entered, and that it is one of its file
entered : (files : List Graph) (file n : ℕ) (stacks : Stacks) (next : Config) (g : Graph) → slice_get files file ≡ Some g → enter_place files file (place.At n) stacks ≡ Some next → (next.spot ≡ At (node_at file n)) × (n < length g.nodes)
entered files file n stacks next g is h =
    option_and_then_some (λ (node : Node). enter_node (node_at file n) node stacks) (node_of files file n) next h
    (λ node node_is enters. (spot_of node (enter (action_of file node.kind) stacks) enters, within node node_is))
  where
    spot_of : (node : Node) (o : Option Stacks) → option_map (at_node (node_at file n)) o ≡ Some next → next.spot ≡ At (node_at file n)
    spot_of node None e = absurd (none-some next e)
    spot_of node (Some s) e = ap (λ (x : Config). x.spot) (sym (same_Some (at_node (node_at file n) s) next e))

    within : (node : Node) → node_of files file n ≡ Some node → n < length g.nodes
    within node e =
        slice_get_within g.nodes n node (sym (ap (λ (o : Option Graph). option_and_then (λ (x : Graph). slice_get x.nodes n) o) is) ∙ e)

-- an edge that isn't a cut edge goes up in its file
rises_to : (files : List Graph) (e : EdgeAt) (at next : Config) (g : Graph) (edge : Edge) → slice_get files e.file ≡ Some g → slice_get g.edges e.edge ≡ Some edge → (source sink : Place) → edge.source ≡ source → edge.sink ≡ sink → (spot : Spot) → stands_at e.file source spot ≡ true → enter_place files e.file sink at.stacks ≡ Some next → is_cut g sink ≡ false → length g.nodes ≤ max_nodes → (rank spot < rank next.spot) × (rank next.spot ≤ max_nodes)
rises_to files e at next g edge h k source place.Root s t spot stands enters cut small = absurd (both_ways true cut refl)
rises_to files e at next g edge h k source place.Jump s t spot stands enters cut small = absurd (both_ways true cut refl)
rises_to files e at next g edge h k place.Jump (place.At n) s t spot stands enters cut small = absurd (false≢true stands)
rises_to files e at next g edge h k place.Root (place.At n) s t (At node) stands enters cut small = absurd (false≢true stands)
rises_to files e at next g edge h k place.Root (place.At n) s t Root stands enters cut small =
    let there = entered files e.file n at.stacks next g h enters in
    let up : rank next.spot ≡ suc n = ap rank there.0 in
    let low : n < length g.nodes = there.1 in
    (omega arith, omega arith)
rises_to files e at next g edge h k (place.At m) (place.At n) s t Root stands enters cut small = absurd (false≢true stands)
rises_to files e at next g edge h k (place.At m) (place.At n) s t (At node) stands enters cut small =
    let there = entered files e.file n at.stacks next g h enters in
    let up : rank next.spot ≡ suc n = ap rank there.0 in
    let low : n < length g.nodes = there.1 in
    let same : node.node ≡ m = eqb-true node.node m (and_parts (eqb node.file e.file) (eqb node.node m) stands).1 in
    let straight_up : m < n = up_from (list_any-false (turns_at n) g.edges e.edge edge (or_parts (is_exported g.nodes n) (is_turning g.edges n) cut).1 k) in
    (omega arith, omega arith)
  where
    up_from : turns_at n edge ≡ false → m < n
    up_from f = by (and_cases (eqb n n) (leb n m) (sym (λ i. turns_at_places (s i) (t i)) ∙ f))
      where
        turns_at_places : Place → Place → Bool
        turns_at_places a b = turns_between a b n

        by : (eqb n n ≡ false) ⊎ (leb n m ≡ false) → m < n
        by (inl x) = absurd (both_ways (eqb n n) x (eq-eqb n n refl))
        by (inr x) = leb-false n m x

pub rank-step : (files : List Graph) → AreSmall files → (at next : Config) (e : EdgeAt) → step files at e ≡ Some next → is_cut_edge files e ≡ false → (rank at.spot < rank next.spot) × (rank next.spot ≤ max_nodes)
rank-step files small at next e h cut =
    let f = followed files at e next h in
    rises_to files e at next f.graph f.edge f.graph_is f.edge_is f.edge.source f.edge.sink refl refl at.spot f.stands f.enters
    (sym (is_cut_edge-found files e f.graph f.edge f.graph_is f.edge_is) ∙ cut) (small e.file f.graph f.graph_is)

-- the search may go on from the run: it is bounded unless it stands between cuts
abbrev pub stays : Bounds → List Graph → Config → List EdgeAt → Bool
stays bounds files c es = not (ends_cut files es) || is_bounded bounds files c es

-- the search may go on from each front of the run but the whole
abbrev pub FrontsStay : Bounds → List Graph → Config → List EdgeAt → Type 0
FrontsStay bounds files c es =
    (q r : List EdgeAt) → q ++ r ≡ es → r ≢ [] → stays bounds files c q ≡ true

pub nonempty_append : (p : List EdgeAt) (e : EdgeAt) (r : List EdgeAt) → p ++ e ∷ r ≢ []
nonempty_append [] e r h = cc
nonempty_append (x ∷ p) e r h = cc

bounded_where : (a b : Bool) → a ≡ true → (not a || b) ≡ true → b ≡ true
bounded_where true b t h = h
bounded_where false b t h = absurd (false≢true t)

-- how long a run is by where it stands, one edge on
one_longer : (bounds : Bounds) (files : List Graph) → AreSmall files → (c at next : Config) (p : List EdgeAt) (e : EdgeAt) → step files at e ≡ Some next → length p ≤ bounds.edges + min (rank at.spot) max_nodes → stays bounds files c (with_edge p e) ≡ true → length (with_edge p e) ≤ bounds.edges + min (rank next.spot) max_nodes
one_longer bounds files small c at next p e h le stay = by (cases_Bool (is_cut_edge files e))
  where
    by : (is_cut_edge files e ≡ true) ⊎ (is_cut_edge files e ≡ false) → length (with_edge p e) ≤ bounds.edges + min (rank next.spot) max_nodes
    by (inl cut) =
        let bounded = bounded_where (ends_cut files (with_edge p e)) (is_bounded bounds files c (with_edge p e)) (ends_cut-append files p e [] ∙ cut) stay in
        let short : length (with_edge p e) ≤ bounds.edges = leb-true _ _ (and_parts _ _ bounded).0 in
        omega arith
    by (inr open') =
        let up = rank-step files small at next e h open' in
        let more : length (with_edge p e) ≡ length p + 1 = length-append p (e ∷ []) in
        let rises : rank at.spot < rank next.spot = up.0 in
        let top : rank next.spot ≤ max_nodes = up.1 in
        omega arith

pub length-fronts_stay : (bounds : Bounds) (files : List Graph) → AreSmall files → (c at : Config) (p rest : List EdgeAt) → run files c p ≡ Some at → length p ≤ bounds.edges + min (rank at.spot) max_nodes → IsSome (run files at rest) → ((x : EdgeAt) (q r : List EdgeAt) → x ∷ (q ++ r) ≡ rest → stays bounds files c (p ++ x ∷ q) ≡ true) → length (p ++ rest) ≤ bounds.edges + max_nodes
length-fronts_stay bounds files small c at p [] h le runs each =
    let same : length (p ++ []) ≡ length p = ap length (append-nil p) in omega arith
length-fronts_stay bounds files small c at p (e ∷ rest) h le runs each =
    let f = first_step files at e rest runs in
    subst (λ (xs : List EdgeAt). length xs ≤ bounds.edges + max_nodes) (append_assoc p (e ∷ []) rest)
    (length-fronts_stay bounds files small c f.0 (with_edge p e) rest (run-with_edge files c at f.0 p e h f.1)
    (one_longer bounds files small c at f.0 p e f.1 le (each e [] rest refl))
    f.2
    (λ x q r is.
    subst (λ (xs : List EdgeAt). stays bounds files c xs ≡ true) (sym (append_assoc p (e ∷ []) (x ∷ q)))
    (each e (x ∷ q) r (ap (λ (xs : List EdgeAt). e ∷ xs) is))))

-- from a front of a run all whose fronts stay the search goes on: it is shorter than the longest
pub length-front : (bounds : Bounds) (files : List Graph) → AreSmall files → (c : Config) (q : List EdgeAt) (e : EdgeAt) (r : List EdgeAt) → IsSome (run files c (q ++ e ∷ r)) → FrontsStay bounds files c (q ++ e ∷ r) → length q < longest bounds
length-front bounds files small c q e r runs each =
    let parts = parts_of files c q (e ∷ r) runs in
    let short : length ([] ++ q) ≤ bounds.edges + max_nodes =
    length-fronts_stay bounds files small c c [] q refl (omega arith) (ap is_some parts.1) (λ x q' r' is.
    each (x ∷ q') (r' ++ e ∷ r) (sym (append_assoc (x ∷ q') r' (e ∷ r)) ∙ ap (λ (xs : List EdgeAt). xs ++ e ∷ r) is)
    (nonempty_append r' e r)) in
    omega arith
