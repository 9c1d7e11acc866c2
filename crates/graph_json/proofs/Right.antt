-- What a graph without a fault has: its edges' ends and its scopes are positions of nodes, of which there are few.
use Rattle.std.proofs.Common.{◌≡◌, ℕ, suc, ◌<◌, ◌≤◌, ◌^◌, List, [], ◌∷◌, Bool, true, false, not, ◌&&◌, Option, Some, None, option_map, length, position, nat_lt, slice_get, refl, sym, arith, true≢false}
use Rattle.std.specs.Prelude.{IfSome}
use Rattle.std.specs.List.{position_or_len, AllByRecursion}
use Rattle.std.proofs.lemmas.Bool.Decides.{nat_tests}
use Rattle.std.proofs.lemmas.Option.{slice_get_within}
use Rattle.graph_nodes.specs.declared.node.Node.{Node}
use Rattle.graph_nodes.specs.declared.node.Edge.{Edge}
use Rattle.graph_nodes.specs.declared.node.NodeKind.{NodeKind}
use Rattle.graph_nodes.specs.declared.node.NodeKind.TheVariants.{Scope, Push, PushScoped, Pop, PopScoped, Drops}
use Rattle.graph_nodes.specs.declared.node.Place.{Place}
use Rattle.graph_nodes.specs.declared.node.Place.TheVariants.{Root, Jump, At}
use Rattle.graph_nodes.specs.declared.fault.GraphFault.{GraphFault}
use Rattle.graph_nodes.specs.declared.fault.GraphFault.TheVariants.{TooManyNodes, TooManyEdges, BadEnd, JumpSource, BadScope}
use Rattle.graph_nodes.specs.Limits.{max_nodes, max_edges}
use Rattle.graph_nodes.specs.Graph.{has_place, is_exported}
use Rattle.graph_nodes.specs.Checked.{graph_fault, first_of, above, has_ends, has_scope, is_jump}
use Rattle.graph_json.specs.Printed.{scope_of}

first_none : (a b : Option GraphFault) → first_of a b ≡ None → (a ≡ None) × (b ≡ None)
first_none None b e = (refl, e)
first_none (Some f) b e = absurd (cc)

map_none : {A B : Type 0} (f : A → B) (o : Option A) → option_map f o ≡ None → o ≡ None
map_none f None e = refl
map_none f (Some a) e = absurd (cc)

above_none : (limit n : ℕ) → above limit n ≡ None → n ≤ limit
above_none limit n e = by (nat_lt limit n) refl
  where
    by : (b : Bool) → nat_lt limit n ≡ b → n ≤ limit
    by true g = absurd (cc (sym (rw g at e)))
    by false g = grind (arith, nat_tests)

none_place : {X : Type 0} (p : X → Bool) (xs : List X) → position p xs ≡ None → length xs ≤ position_or_len p xs
none_place p xs e = by (nat_lt (position_or_len p xs) (length xs)) refl
  where
    by : (b : Bool) → nat_lt (position_or_len p xs) (length xs) ≡ b → length xs ≤ position_or_len p xs
    by true g = absurd (cc (sym (rw g at e)))
    by false g = grind (arith, nat_tests)

fails_first : {X : Type 0} (p : X → Bool) (x : X) (xs : List X) (b : Bool) → p x ≡ b → suc (length xs) ≤ position_or_len p (x ∷ xs) → (p x ≡ false) × (length xs ≤ position_or_len p xs)
fails_first p x xs true e h = absurd (omega (arith, rw e at h))
fails_first p x xs false e h = (e, omega (arith, rw e at h))

all_fail : {X : Type 0} (p : X → Bool) (xs : List X) → length xs ≤ position_or_len p xs → AllByRecursion (λ x. p x ≡ false) xs
all_fail p [] h = tt
all_fail p (x ∷ xs) h = let first = fails_first p x xs (p x) refl h in (first.0, all_fail p xs first.1)

abbrev pub PlaceIn : ℕ → Place → Type 0
PlaceIn count Root = Unit {0}
PlaceIn count Jump = Unit {0}
PlaceIn count (At n) = n < count

abbrev pub EndsIn : ℕ → Edge → Type 0
EndsIn count e = PlaceIn count e.source × PlaceIn count e.sink

abbrev pub ScopeIn : ℕ → Node → Type 0
ScopeIn count node = IfSome (scope_of node.kind) (λ n. n < count)

place_in : (count : ℕ) (p : Place) → has_place count p ≡ true → PlaceIn count p
place_in count Root e = tt
place_in count Jump e = tt
place_in count (At n) e = grind (arith, nat_tests)

both : (a b : Bool) → not (a && b) ≡ false → (a ≡ true) × (b ≡ true)
both true true e = (refl, refl)
both true false e = absurd (true≢false e)
both false b e = absurd (true≢false e)

scope_within : (nodes : List Node) (n : ℕ) → not (is_exported nodes n) ≡ false → n < length nodes
scope_within nodes n e = by (slice_get nodes n) refl
  where
    by : (o : Option Node) → slice_get nodes n ≡ o → n < length nodes
    by (Some node) g = slice_get_within nodes n node g
    by None g = absurd (true≢false (rw g at e))

scope_in : (nodes : List Node) (kind : NodeKind) → not (has_scope nodes kind) ≡ false → IfSome (scope_of kind) (λ n. n < length nodes)
scope_in nodes (Scope exported) e = tt
scope_in nodes (Push symbol reference) e = tt
scope_in nodes (PushScoped symbol scope reference) e = scope_within nodes scope e
scope_in nodes (Pop symbol definition) e = tt
scope_in nodes (PopScoped symbol definition) e = tt
scope_in nodes Drops e = tt

each : {X : Type 0} (P Q : X → Type 0) → ((x : X) → P x → Q x) → (xs : List X) → AllByRecursion P xs → AllByRecursion Q xs
each P Q f [] h = tt
each P Q f (x ∷ xs) h = (f x h.0, each P Q f xs h.1)

module _ (nodes : List Node) (edges : List Edge) (right : graph_fault nodes edges ≡ None) where
  parts : (option_map TooManyNodes (above max_nodes (length nodes)) ≡ None) × (option_map BadEnd (position (λ (e : Edge). not (has_ends (length nodes) e)) edges) ≡ None) × (option_map BadScope (position (λ (n : Node). not (has_scope nodes n.kind)) nodes) ≡ None)
  parts =
      let a = first_none (option_map TooManyNodes (above max_nodes (length nodes))) _ right in
      let b = first_none (option_map TooManyEdges (above max_edges (length edges))) _ a.1 in
      let c = first_none (option_map BadEnd (position (λ (e : Edge). not (has_ends (length nodes) e)) edges)) _ b.1 in
      let d = first_none (option_map JumpSource (position (λ (e : Edge). is_jump e.source) edges)) _ c.1 in
      (a.0, c.0, d.1)

  pub few_nodes : length nodes < 2 ^ 32
  few_nodes = let h = above_none max_nodes (length nodes) (map_none TooManyNodes (above max_nodes (length nodes)) parts.0) in omega (arith, h)

  pub ends_in : AllByRecursion (EndsIn (length nodes)) edges
  ends_in =
      let p = λ (e : Edge). not (has_ends (length nodes) e) in
      each (λ (e : Edge). not (has_ends (length nodes) e) ≡ false) (EndsIn (length nodes)) (λ e h. let b = both (has_place (length nodes) e.source) (has_place (length nodes) e.sink) h in (place_in (length nodes) e.source b.0, place_in (length nodes) e.sink b.1))
      edges (all_fail p edges (none_place p edges (map_none BadEnd (position p edges) parts.1)))

  pub scopes_in : AllByRecursion (ScopeIn (length nodes)) nodes
  scopes_in =
      let p = λ (n : Node). not (has_scope nodes n.kind) in
      each (λ (n : Node). not (has_scope nodes n.kind) ≡ false) (ScopeIn (length nodes)) (λ n h. scope_in nodes n.kind h) nodes (all_fail p nodes (none_place p nodes (map_none BadScope (position p nodes) parts.2)))
