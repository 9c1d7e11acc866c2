-- Each edge of a checked file is passed by some configuration; so a cut spot begins a walk with each edge
-- that leaves it.
use Rattle.std.proofs.Common.{◌≡◌, ℕ, zero, suc, ◌<◌, List, [], ◌∷◌, length, Option, Some, None, IsSome, IsTrue, refl, sym, subst, if◌then◌else◌, Bool, true, false, slice_get, arith}
use Rattle.std.specs.Option.{option_and_then, option_map}
use Rattle.std.specs.Str.{bytes_eq}
use Rattle.std.proofs.lemmas.Bool.{false≢true, ltb-true}
use Rattle.std.proofs.lemmas.Slice.Eq.{bytes_eq-Decides}
use Rattle.stacks_vars.specs.declared.stacks.Stacks.{Stacks}
use Rattle.stacks_vars.specs.declared.action.Action.{Action}
use Rattle.stacks_vars.specs.declared.action.Action.TheVariants.{Pass, Push, PushScoped, Pop, PopScoped, Drops}
use Rattle.stacks_vars.specs.Enter.{enter, stacks_of, item_of, no_stacks}
use Rattle.graph_nodes.specs.Graph.{Graph, has_place}
use Rattle.graph_nodes.specs.Checked.{IsChecked}
use Rattle.graph_nodes.specs.declared.node.Node.{Node}
use Rattle.graph_nodes.specs.declared.node.Place.{Place}
use Rattle.graph_nodes.specs.declared.node.Place.TheVariants as place
use Rattle.partial_path.specs.declared.config.Spot.{Spot}
use Rattle.partial_path.specs.declared.config.Config.{Config}
use Rattle.partial_path.specs.declared.rule.Start.TheVariants.{After}
use Rattle.partial_path.specs.Spots.{node_at, at_node}
use Rattle.partial_path.specs.Step.{step, action_of, enter_place, enter_node}
use Rattle.partial_path.specs.Walks.{alone, is_cut_spot, IsWalk}
use Rattle.partial_path.proofs.Edges.{has_sink}
use Rattle.partial_path.proofs.Equals.{spot_eq-refl}
use Rattle.file_paths.proofs.PrefixLaws.{cons≢nil}
use Rattle.file_paths.proofs.UnitLaws.{edge_in, Leaves, steps_where, unit_steps}

-- stacks with which a node of this action is entered
abbrev suited : Action → Stacks
suited Pass = no_stacks
suited (Push symbol) = no_stacks
suited (PushScoped symbol scope) = no_stacks
suited (Pop symbol) = stacks_of (item_of symbol None ∷ []) []
suited (PopScoped symbol) = stacks_of (item_of symbol (Some []) ∷ []) []
suited Drops = no_stacks

if_so : {X : Type 0} (b : Bool) (x : X) → b ≡ true → IsSome (if b then Some x else None)
if_so true x t = refl
if_so false x t = absurd (false≢true t)

suited_enters : (a : Action) → IsSome (enter a (suited a))
suited_enters Pass = refl
suited_enters (Push symbol) = refl
suited_enters (PushScoped symbol scope) = refl
suited_enters (Pop symbol) = if_so (bytes_eq symbol symbol) (stacks_of [] []) ((bytes_eq-Decides symbol symbol).1 refl)
suited_enters (PopScoped symbol) = if_so (bytes_eq symbol symbol) (stacks_of [] []) ((bytes_eq-Decides symbol symbol).1 refl)
suited_enters Drops = refl

mapped_some : {X Y : Type 0} (f : X → Y) (o : Option X) → IsSome o → IsSome (option_map f o)
mapped_some f None h = absurd (false≢true h)
mapped_some f (Some x) h = refl

node_there : (nodes : List Node) (n : ℕ) → n < length nodes → (node : Node) × (slice_get nodes n ≡ Some node)
node_there [] n less = absurd (let l : n < 0 = less in omega arith)
node_there (node ∷ nodes) zero less = (node, refl)
node_there (node ∷ nodes) (suc n) less = node_there nodes n (omega arith)

-- stacks with which the place is entered
abbrev Enters : Graph → Place → Type 0
Enters g p = (stacks : Stacks) × IsSome (enter_place (alone g) 0 p stacks)

place_enters : (g : Graph) (p : Place) → IsTrue (has_place (length g.nodes) p) → Enters g p
place_enters g place.Root there = (no_stacks, refl)
place_enters g place.Jump there = (stacks_of [] (node_at 0 0 ∷ []), refl)
place_enters g (place.At n) there = node_enters (node_there g.nodes n (ltb-true n (length g.nodes) there))
  where
    node_enters : (node : Node) × (slice_get g.nodes n ≡ Some node) → Enters g (place.At n)
    node_enters h = (
      suited (action_of 0 h.0.kind),
      subst (λ (o : Option Node). IsSome (option_and_then (λ (node : Node). enter_node (node_at 0 n) node (suited (action_of 0 h.0.kind))) o)) (sym h.1)
          (mapped_some (at_node (node_at 0 n)) (enter (action_of 0 h.0.kind) (suited (action_of 0 h.0.kind))) (suited_enters (action_of 0 h.0.kind))),
    )

-- some configuration at the spot follows the edge
pub edge_passed : (g : Graph) (i : ℕ) (s : Spot) → IsChecked g → Leaves g i s → (d : Config) × IsSome (step (alone g) d (edge_in i))
edge_passed g i s checked leaves = (
  record { spot = s; stacks = enters.0 },
  subst (λ (o : Option Config). IsSome o) (sym (steps_where g i s leaves (record { spot = s; stacks = enters.0 })))
      (subst (λ (b : Bool). IsSome (if b then enter_place (alone g) 0 leaves.edge.sink enters.0 else None)) (sym (spot_eq-refl s)) enters.1),
)
  where
    enters : Enters g leaves.edge.sink
    enters = place_enters g leaves.edge.sink (has_sink g i leaves.edge checked leaves.there)

-- each edge that leaves a cut spot is a walk of one edge from there
pub unit_walk : (g : Graph) (i : ℕ) (s : Spot) → IsChecked g → Leaves g i s → IsTrue (is_cut_spot g s) → IsWalk g (After s) (edge_in i ∷ [])
unit_walk g i s checked leaves cut = record {
  begins = cut;
  nonempty = cons≢nil (edge_in i) [];
  uncut = tt;
  runs = (passed.0, subst (λ (o : Option Config). IsSome o) (sym (unit_steps g i s leaves passed.0)) passed.1);
}
  where
    passed : (d : Config) × IsSome (step (alone g) d (edge_in i))
    passed = edge_passed g i s checked leaves
