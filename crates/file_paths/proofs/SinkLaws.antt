-- Where a walk stands after its last edge: at that edge's sink, so it goes on by the edges from there.
use Rattle.std.proofs.Common.{◌≡◌, ℕ, List, [], ◌∷◌, ◌++◌, Option, Some, None, refl, sym, ap, ◌∙◌, subst, if◌then◌else◌, Bool, true, false, slice_get, Contains, inl, inr}
use Rattle.std.specs.Option.{option_and_then, option_map}
use Rattle.std.proofs.lemmas.Option.{none-some, same_Some, option_and_then_some}
use Rattle.std.proofs.lemmas.Bool.{false≢true}
use Rattle.stacks_vars.specs.declared.stacks.Stacks.{Stacks}
use Rattle.stacks_vars.specs.Enter.{enter}
use Rattle.graph_nodes.specs.Graph.{Graph}
use Rattle.graph_nodes.specs.Checked.{is_jump}
use Rattle.graph_nodes.specs.Cut.{is_cut}
use Rattle.graph_nodes.specs.Out.{edges_from}
use Rattle.graph_nodes.specs.declared.node.Edge.{Edge}
use Rattle.graph_nodes.specs.declared.node.Node.{Node}
use Rattle.graph_nodes.specs.declared.node.Place.{Place}
use Rattle.graph_nodes.specs.declared.node.Place.TheVariants as place
use Rattle.partial_path.specs.declared.config.Spot.{Spot}
use Rattle.partial_path.specs.declared.config.Spot.TheVariants as spot
use Rattle.partial_path.specs.declared.config.Config.{Config}
use Rattle.partial_path.specs.declared.config.EdgeAt.{EdgeAt}
use Rattle.partial_path.specs.declared.rule.Start.{Start}
use Rattle.partial_path.specs.declared.rule.Start.TheVariants.{Before, After}
use Rattle.partial_path.specs.Spots.{node_at, at_node, at_root}
use Rattle.partial_path.specs.Same.{spot_eq}
use Rattle.partial_path.specs.Step.{step, follow, stands_at, action_of, enter_place, enter_node, is_cut_edge}
use Rattle.partial_path.specs.Runs.{run}
use Rattle.partial_path.specs.Walks.{alone, run_from, IsWalk}
use Rattle.file_paths.specs.Walking.{ends_cut}
use Rattle.file_paths.specs.Finding.{EndsWith}
use Rattle.file_paths.proofs.PrefixLaws.{IsEnded, ended}
use Rattle.partial_path.proofs.Followed.{if_some}
use Rattle.partial_path.proofs.RunsOn.{run_from-append, run_one}
use Rattle.file_paths.proofs.UnitLaws.{edge_in, IsSpotOf}
use Rattle.file_paths.proofs.LeavingLaws.{walk_leaves, first_leaves}
use Rattle.file_paths.proofs.EdgesLaws.{LeavesBy-in}

mapped : {X Y : Type 0} (f : X → Y) (o : Option X) (y : Y) → option_map f o ≡ Some y → (x : X) × (f x ≡ y)
mapped f None y h = absurd (none-some y h)
mapped f (Some x) y h = (x, same_Some (f x) y h)

-- what has entered a place, other than the jump, stands there
enters_spot : (g : Graph) (p : Place) (stacks : Stacks) (d : Config) → is_jump p ≡ false → enter_place (alone g) 0 p stacks ≡ Some d → IsSpotOf p d.spot
enters_spot g place.Root stacks d f h = ap (λ (x : Config). x.spot) (sym (same_Some (at_root stacks) d h))
enters_spot g place.Jump stacks d f h = absurd (false≢true (sym f))
enters_spot g (place.At n) stacks d f h =
    option_and_then_some (λ (node : Node). enter_node (node_at 0 n) node stacks) (slice_get g.nodes n) d h
    (λ node there entered.
    ap (λ (x : Config). x.spot) (sym (mapped (at_node (node_at 0 n)) (enter (action_of 0 node.kind) stacks) d entered).1))

step_enters : (g : Graph) (k : ℕ) (edge : Edge) (c d : Config) → slice_get g.edges k ≡ Some edge → step (alone g) c (edge_in k) ≡ Some d
    → enter_place (alone g) 0 edge.sink c.stacks ≡ Some d
step_enters g k edge c d found h =
    option_and_then_some (λ (x : Edge). follow (alone g) 0 x c) (slice_get g.edges k) d h
    (λ x there follows.
    let same : x ≡ edge = same_Some x edge (sym there ∙ found) in
    let entered = (if_some (stands_at 0 x.source c.spot) (enter_place (alone g) 0 x.sink c.stacks) d follows).1 in
    subst (λ (y : Edge). enter_place (alone g) 0 y.sink c.stacks ≡ Some d) same entered)

-- after its last edge a run stands at that edge's sink
sink_spot : (g : Graph) (start : Start) (before : List EdgeAt) (k : ℕ) (edge : Edge) (c d : Config) → slice_get g.edges k ≡ Some edge → is_jump edge.sink ≡ false
    → run_from (alone g) start (before ++ edge_in k ∷ []) c ≡ Some d → IsSpotOf edge.sink d.spot
sink_spot g start before k edge c d found f h =
    option_and_then_some (λ (x : Config). run (alone g) x (edge_in k ∷ [])) (run_from (alone g) start before c) d
    (sym (run_from-append (alone g) start before (edge_in k ∷ []) c) ∙ h)
    (λ x there ran. enters_spot g edge.sink x.stacks d f (step_enters g k edge x d found (sym (run_one (alone g) x (edge_in k)) ∙ ran)))

-- a walk goes on by an edge that leaves the sink of its last edge
pub sink_leaves : (g : Graph) (start : Start) (es before : List EdgeAt) (k : ℕ) (edge : Edge) (e : EdgeAt) → es ≡ before ++ edge_in k ∷ []
    → slice_get g.edges k ≡ Some edge → is_jump edge.sink ≡ false → IsWalk g start (es ++ e ∷ [])
    → (i : ℕ) × (e ≡ edge_in i) × Contains (edges_from g edge.sink) i
sink_leaves g start es before k edge e is found f walk =
    let at = walk_leaves g start es e walk in
    let ran = subst (λ (xs : List EdgeAt). run_from (alone g) start xs at.0 ≡ Some at.1) is at.2 in
    LeavesBy-in g edge.sink at.1.spot e (sink_spot g start before k edge at.0 at.1 found f ran) at.3

last_by : (g : Graph) (start : Start) (es : List EdgeAt) → IsWalk g start es → IsEnded es → EndsWith g es
last_by g start es walk (inl none) = absurd (walk.nonempty none)
last_by g start es walk (inr h) =
    let at = walk_leaves g start h.0 h.1 (subst (IsWalk g start) h.2 walk) in
    record {
      before = h.0;
      last = at.3.0;
      edge = at.3.2.edge;
      is = h.2 ∙ ap (λ (e : EdgeAt). h.0 ++ e ∷ []) at.3.1;
      there = at.3.2.there;
    }

pub walk_last : (g : Graph) (start : Start) (es : List EdgeAt) → IsWalk g start es → EndsWith g es
walk_last g start es walk = last_by g start es walk (ended es)

begun : (b : Bool) (o : Option Config) (d : Config) → option_and_then (λ (first : Config). Some first) (if b then o else None) ≡ Some d → o ≡ Some d
begun true None d h = absurd (none-some d h)
begun true (Some x) d h = h
begun false o d h = absurd (none-some d h)

-- a walk from a reference begins with an edge that leaves it
pub reference_leaves : (g : Graph) (n : ℕ) (e : EdgeAt) → IsWalk g (Before (node_at 0 n)) (e ∷ [])
    → (i : ℕ) × (e ≡ edge_in i) × Contains (edges_from g (place.At n)) i
reference_leaves g n e walk =
    let at = walk_leaves g (Before (node_at 0 n)) [] e walk in
    let entered = begun (spot_eq (spot.At (node_at 0 n)) at.0.spot) (enter_place (alone g) 0 (place.At n) at.0.stacks) at.1 at.2 in
    LeavesBy-in g (place.At n) at.1.spot e (enters_spot g (place.At n) at.0.stacks at.1 refl entered) at.3

-- and a walk from a cut spot with one that leaves that
pub cut_leaves : (g : Graph) (p : Place) (s : Spot) (e : EdgeAt) → IsSpotOf p s → IsWalk g (After s) (e ∷ [])
    → (i : ℕ) × (e ≡ edge_in i) × Contains (edges_from g p) i
cut_leaves g p s e is walk = LeavesBy-in g p s e is (first_leaves g s e walk)

-- whether the last edge is a cut edge, told by the last edge
pub ends_cut-last : (files : List Graph) (before : List EdgeAt) (e : EdgeAt) → ends_cut files (before ++ e ∷ []) ≡ is_cut_edge files e
ends_cut-last files [] e = refl
ends_cut-last files (x ∷ []) e = refl
ends_cut-last files (x ∷ y ∷ before) e = ends_cut-last files (y ∷ before) e

-- a place that isn't cut isn't the jump
pub uncut_no_jump : (g : Graph) (p : Place) → is_cut g p ≡ false → is_jump p ≡ false
uncut_no_jump g place.Root h = refl
uncut_no_jump g place.Jump h = absurd (false≢true (sym h))
uncut_no_jump g (place.At n) h = refl
