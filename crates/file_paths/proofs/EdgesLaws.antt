-- The edges that leave a place are those by which a walk goes on from the spot there.
use Rattle.std.proofs.Common.{◌≡◌, ◌<◌, ℕ, length, refl, sym, ap, ◌∙◌, true, eqb-true, eq-eqb, Contains}
use Rattle.std.proofs.lemmas.Option.{slice_get_within}
use Rattle.std.proofs.lemmas.Bool.{false≢true}
use Rattle.stacks_vars.specs.declared.scopes.NodeAt.{NodeAt}
use Rattle.graph_nodes.specs.Graph.{Graph}
use Rattle.graph_nodes.specs.Out.{place_eq, edges_from}
use Rattle.graph_nodes.specs.declared.node.Place.{Place}
use Rattle.graph_nodes.specs.declared.node.Place.TheVariants as place
use Rattle.partial_path.specs.declared.config.Spot.{Spot}
use Rattle.partial_path.specs.declared.config.Spot.TheVariants as spot
use Rattle.partial_path.specs.declared.config.EdgeAt.{EdgeAt}
use Rattle.partial_path.specs.Spots.{node_at}
use Rattle.partial_path.proofs.Equals.{same_node}
use Rattle.partial_path.proofs.Positions.{IsIn-edges_from, leaves_from}
use Rattle.list_facts.proofs.Members.{Contains-from_IsIn, IsIn-from_Contains}
use Rattle.file_paths.proofs.UnitLaws.{edge_in, IsSpotOf, Leaves}
use Rattle.file_paths.proofs.LeavingLaws.{LeavesBy}

same_spot_node : (m n : ℕ) → spot.At (node_at 0 m) ≡ spot.At (node_at 0 n) → m ≡ n
same_spot_node m n e = ap (λ (a : NodeAt). a.node) (same_node (node_at 0 m) (node_at 0 n) e)

root_is_none : (n : ℕ) → spot.Root ≡ spot.At (node_at 0 n) → ⊥
root_is_none n e = cc

-- places at one spot are the same
same_place : (p q : Place) (s : Spot) → IsSpotOf p s → IsSpotOf q s → place_eq p q ≡ true
same_place place.Root place.Root s h k = refl
same_place place.Root place.Jump s h k = absurd k
same_place place.Root (place.At n) s h k = absurd (root_is_none n (sym h ∙ k))
same_place place.Jump q s h k = absurd h
same_place (place.At m) place.Root s h k = absurd (root_is_none m (sym k ∙ h))
same_place (place.At m) place.Jump s h k = absurd k
same_place (place.At m) (place.At n) s h k = eq-eqb m n (same_spot_node m n (sym h ∙ k))

spot_of_same : (p q : Place) (s : Spot) → place_eq p q ≡ true → IsSpotOf q s → IsSpotOf p s
spot_of_same place.Root place.Root s t h = h
spot_of_same place.Root place.Jump s t h = absurd h
spot_of_same place.Root (place.At n) s t h = absurd (false≢true t)
spot_of_same place.Jump place.Root s t h = absurd (false≢true t)
spot_of_same place.Jump place.Jump s t h = h
spot_of_same place.Jump (place.At n) s t h = absurd (false≢true t)
spot_of_same (place.At m) place.Root s t h = absurd (false≢true t)
spot_of_same (place.At m) place.Jump s t h = absurd h
spot_of_same (place.At m) (place.At n) s t h = h ∙ ap (λ (k : ℕ). spot.At (node_at 0 k)) (sym (eqb-true m n t))

-- an edge that leaves the spot at a place is one of those that leave the place
pub Leaves-in : (g : Graph) (at : Place) (s : Spot) (i : ℕ) → IsSpotOf at s → Leaves g i s → Contains (edges_from g at) i
Leaves-in g at s i is leaves =
    Contains-from_IsIn (edges_from g at) i
    (IsIn-edges_from g at i leaves.edge leaves.there (same_place leaves.edge.source at s leaves.source is))

-- and the other way round
pub Leaves-from : (g : Graph) (at : Place) (s : Spot) (i : ℕ) → IsSpotOf at s → Contains (edges_from g at) i → Leaves g i s
Leaves-from g at s i is there =
    let k = leaves_from g at i (IsIn-from_Contains (edges_from g at) i there) in
    record {
      edge = k.0;
      there = k.1;
      source = spot_of_same k.0.source at s k.2 is;
    }

-- what leaves the spot at a place is an edge from there
pub LeavesBy-in : (g : Graph) (at : Place) (s : Spot) (e : EdgeAt) → IsSpotOf at s → LeavesBy g s e → (i : ℕ) × (e ≡ edge_in i) × Contains (edges_from g at) i
LeavesBy-in g at s e is h = (h.0, h.1, Leaves-in g at s h.0 is h.2)

-- the edges that leave a place are there
pub edges_from-there : (g : Graph) (at : Place) (i : ℕ) → Contains (edges_from g at) i → i < length g.edges
edges_from-there g at i there =
    let k = leaves_from g at i (IsIn-from_Contains (edges_from g at) i there) in slice_get_within g.edges i k.0 k.1
