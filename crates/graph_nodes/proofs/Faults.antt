-- What it tells of lists of nodes and edges that they have no fault. The layers above cite these.
use Rattle.std.proofs.Common.{◌≡◌, ℕ, ◌≤◌, List, length, Bool, true, false, not, cond, refl, arith, ◌&&◌, IsTrue, Option, Some, None, position, ltb}
use Rattle.std.specs.List.{All, position_or_len}
use Rattle.std.specs.Option.{option_map}
use Rattle.std.proofs.lemmas.List.Sums.{fails_before_first}
use Rattle.std.proofs.lemmas.Bool.Decides.{nat_tests}
use Rattle.graph_nodes.specs.declared.node.Node.{Node}
use Rattle.graph_nodes.specs.declared.node.Edge.{Edge}
use Rattle.graph_nodes.specs.declared.node.Place.{Place}
use Rattle.graph_nodes.specs.declared.node.Place.TheVariants.{Root, Jump, At}
use Rattle.graph_nodes.specs.declared.fault.GraphFault.{GraphFault}
use Rattle.graph_nodes.specs.declared.fault.GraphFault.TheVariants.{TooManyNodes, TooManyEdges, BadEnd, JumpSource, BadScope}
use Rattle.graph_nodes.specs.Limits.{max_nodes, max_edges}
use Rattle.graph_nodes.specs.Graph.{has_place}
use Rattle.graph_nodes.specs.Checked.{has_ends, is_jump, has_scope, above, first_of, graph_fault}

-- of two faults looked at in order there is none where there is neither
first_of-none : (a b : Option GraphFault) → first_of a b ≡ None → (a ≡ None) × (b ≡ None)
first_of-none None b h = (refl, h)
first_of-none (Some fault) b h = cc

option_map-none : (f : ℕ → GraphFault) (o : Option ℕ) → option_map f o ≡ None → o ≡ None
option_map-none f None h = refl
option_map-none f (Some n) h = cc

cond-none : (b : Bool) (n : ℕ) → cond b (Some n) None ≡ None → b ≡ false
cond-none true n h = cc
cond-none false n h = refl

above-none : (limit n : ℕ) → above limit n ≡ None → n ≤ limit
above-none limit n h = let e : ltb limit n ≡ false = cond-none (ltb limit n) n h in grind (arith, nat_tests)

-- where no element passes, each fails
position-none : {X : Type 0} (p : X → Bool) (xs : List X) → position p xs ≡ None → All (λ x. p x ≡ false) xs
position-none p xs h k d lt =
    let e : ltb (position_or_len p xs) (length xs) ≡ false = cond-none (ltb (position_or_len p xs) (length xs)) (position_or_len p xs) h in
    fails_before_first p xs k d (grind (arith, nat_tests))

not-false : (b : Bool) → not b ≡ false → IsTrue b
not-false true h = refl
not-false false h = cc

-- no fault, kind by kind
pub record HasNoFault (nodes : List Node) (edges : List Edge) : Type 0 where
  pub few_nodes : length nodes ≤ max_nodes
  pub few_edges : length edges ≤ max_edges
  pub ends : All (λ (e : Edge). IsTrue (has_ends (length nodes) e)) edges
  pub sources : All (λ (e : Edge). is_jump e.source ≡ false) edges
  pub scopes : All (λ (n : Node). IsTrue (has_scope nodes n.kind)) nodes

-- lists without a fault have none of any kind
pub graph_fault-none : (nodes : List Node) (edges : List Edge) → graph_fault nodes edges ≡ None → HasNoFault nodes edges
graph_fault-none nodes edges h =
    let a = first_of-none (option_map TooManyNodes (above max_nodes (length nodes))) _ h in
    let b = first_of-none (option_map TooManyEdges (above max_edges (length edges))) _ a.1 in
    let c = first_of-none (option_map BadEnd (position (λ (e : Edge). not (has_ends (length nodes) e)) edges)) _ b.1 in
    let d = first_of-none (option_map JumpSource (position (λ (e : Edge). is_jump e.source) edges)) _ c.1 in
    record {
      few_nodes = above-none max_nodes (length nodes) (option_map-none TooManyNodes _ a.0);
      few_edges = above-none max_edges (length edges) (option_map-none TooManyEdges _ b.0);
      ends = λ k e lt. not-false _ (position-none (λ (e : Edge). not (has_ends (length nodes) e)) edges (option_map-none BadEnd _ c.0) k e lt);
      sources = position-none (λ (e : Edge). is_jump e.source) edges (option_map-none JumpSource _ d.0);
      scopes = λ k n lt. not-false _ (position-none (λ (n : Node). not (has_scope nodes n.kind)) nodes (option_map-none BadScope _ d.1) k n lt);
    }

-- the ends of each edge are there, the lists and their length by other names
pub ends_in : (nodes : List Node) (edges others : List Edge) (count : ℕ) → graph_fault nodes edges ≡ None
    → others ≡ edges → count ≡ length nodes → All (λ (e : Edge). IsTrue (has_ends count e)) others
ends_in nodes edges others count h e n = rw (e, n) (graph_fault-none nodes edges h).ends

-- a place that is there is there among more nodes too
has_place-more : (m n : ℕ) (place : Place) → m ≤ n → IsTrue (has_place m place) → IsTrue (has_place n place)
has_place-more m n Root le h = refl
has_place-more m n Jump le h = refl
has_place-more m n (At k) le h = grind (arith, nat_tests)

both-more : (a b c d : Bool) → (IsTrue a → IsTrue c) → (IsTrue b → IsTrue d) → IsTrue (a && b) → IsTrue (c && d)
both-more true true c d f g h = rw (f refl, g refl) refl
both-more true false c d f g h = cc
both-more false b c d f g h = cc

-- the ends of each edge are there among the most nodes that a file has, the edges by another name
pub ends_fit : (nodes : List Node) (edges others : List Edge) → graph_fault nodes edges ≡ None
    → others ≡ edges → All (λ (e : Edge). IsTrue (has_ends max_nodes e)) others
ends_fit nodes edges others h e =
    let none = graph_fault-none nodes edges h in
    let there : All (λ (e : Edge). IsTrue (has_ends max_nodes e)) edges = λ k d lt.
    both-more _ _ _ _ (has_place-more (length nodes) max_nodes _ none.few_nodes) (has_place-more (length nodes) max_nodes _ none.few_nodes) (none.ends k d lt) in
    rw e there
