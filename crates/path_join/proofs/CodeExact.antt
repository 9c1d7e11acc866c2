-- The path of one edge is the run of that edge, and the opening of a reference is its start.
use Rattle.std.proofs.Common.{◌≡◌, refl, ap, ◌∙◌, sym, subst, ℕ, zero, suc, ◌+◌, ◌-◌, ◌≤◌, ◌<◌, List, [], ◌∷◌, length, max, Bool, true, false, ◌&&◌, nat_eq, nat_lt, Option, Some, None, slice_get, cond, arith, IsTrue}
use Rattle.std.specs.Prelude.{IsSome}
use Rattle.std.specs.Option.{option_and_then, option_map_or, option_map}
use Rattle.std.proofs.lemmas.Option.{slice_get_within}
use Rattle.std.proofs.lemmas.Bool.Decides.{same_from_decides, Decides-like, Decides-eqb, nat_tests}
use Rattle.graph_nodes.specs.declared.node.Edge.{Edge}
use Rattle.graph_nodes.specs.declared.node.Node.{Node}
use Rattle.graph_nodes.specs.declared.node.Place.{Place}
use Rattle.graph_nodes.specs.declared.node.Place.TheVariants as place
use Rattle.graph_nodes.specs.Graph.{Graph, has_place, is_reference, is_reference_kind}
use Rattle.stacks_vars.specs.declared.scopes.NodeAt.{NodeAt}
use Rattle.stacks_vars.specs.declared.items.SymbolItem.{SymbolItem}
use Rattle.stacks_vars.specs.declared.stacks.Stacks.{Stacks}
use Rattle.stacks_vars.specs.declared.action.Action.{Action}
use Rattle.stacks_vars.specs.declared.action.Action.TheVariants.{Pass}
use Rattle.stacks_vars.specs.Enter.{enter, stacks_of}
use Rattle.partial_path.specs.declared.config.Spot.{Spot}
use Rattle.partial_path.specs.declared.config.Spot.TheVariants as spot
use Rattle.partial_path.specs.declared.config.Config.{Config}
use Rattle.partial_path.specs.declared.config.EdgeAt.{EdgeAt}
use Rattle.partial_path.specs.declared.rule.Start.TheVariants.{Before, After}
use Rattle.partial_path.specs.declared.rule.End.TheVariants.{At}
use Rattle.partial_path.specs.Spots.{node_at, at_node, at_root, is_node, is_root}
use Rattle.partial_path.specs.Step.{enter_jump, enter_place, enter_node, action_of, stands_at, follow, step}
use Rattle.partial_path.specs.Same.{spot_eq}
use Rattle.partial_path.specs.Apply.{rewrite, end_at, apply, height}
use Rattle.partial_path.specs.Runs.{run}
use Rattle.partial_path.specs.Walks.{alone, highest}
use Rattle.partial_path.specs.PathSets.{IsRuleOf}
use Rattle.path_join.specs.Units.{asked_by, made_by, peak_by, place_end, place_action, place_rule, place_spot, edge_alone}
use Rattle.std.proofs.lemmas.List.Elements.{All-nil, All-cons}
use Rattle.partial_path.specs.FileNumbers.{EdgeIn}
use Rattle.path_join.proofs.FilesLaws.{place_in, source_in}
use Rattle.path_join.proofs.CodeUnits.{rewrites, entry-high, max-same}

-- a node that is there
past-end : {X : Type 0} (xs : List X) (n : ℕ) → slice_get xs n ≡ None → length xs ≤ n
past-end [] n e = omega arith
past-end (x ∷ xs) zero e = cc
past-end (x ∷ xs) (suc n) e = let h = past-end xs n e in omega arith

not-past : {X : Type 0} (xs : List X) (n : ℕ) → IsTrue (nat_lt n (length xs)) → slice_get xs n ≡ None → ⊥
not-past xs n t e = let h = past-end xs n e in grind (arith, nat_tests)

-- the node's action, and its entry with these stacks, where the node is this one
abbrev action_there : Option Node → Action
action_there o = option_map_or (λ (node : Node). action_of 0 node.kind) o Pass

abbrev entered : ℕ → Stacks → Option Node → Option Config
entered n s o = option_and_then (λ (node : Node). enter_node (node_at 0 n) node s) o

standing : (at : NodeAt) (o : Option Stacks) → option_and_then (end_at (At (spot.At at))) o ≡ option_map (at_node at) o
standing at None = refl
standing at (Some s) = refl

lands-node : (n : ℕ) (symbols : List SymbolItem) (scopes : List NodeAt) (o : Option Node) → (o ≡ None → ⊥)
    → option_and_then (end_at (At (spot.At (node_at 0 n)))) (rewrite (asked_by (action_there o)) (made_by (action_there o)) (stacks_of symbols scopes)) ≡ entered n (stacks_of symbols scopes) o
lands-node n symbols scopes None there = absurd (there refl)
lands-node n symbols scopes (Some node) there =
    ap (option_and_then (end_at (At (spot.At (node_at 0 n))))) (rewrites (action_of 0 node.kind) symbols scopes)
    ∙ standing (node_at 0 n) (enter (action_of 0 node.kind) (stacks_of symbols scopes))

-- the rule's rewriting, and where it then stands, is the entry of the place
lands : (g : Graph) (sink : Place) (s : Stacks) → IsTrue (has_place (length g.nodes) sink)
    → option_and_then (end_at (place_end sink)) (rewrite (asked_by (place_action g sink)) (made_by (place_action g sink)) s) ≡ enter_place (alone g) 0 sink s
lands g place.Root s there = refl
lands g place.Jump s there = refl
lands g (place.At n) s there = lands-node n s.symbols s.scopes (slice_get g.nodes n) (not-past g.nodes n there)

-- the height of the entry
same_stacks : (c d : Config) → Some c ≡ Some d → c.stacks.symbols ≡ d.stacks.symbols
same_stacks c d e = let f : c ≡ d = cc in ap (λ (x : Config). x.stacks.symbols) f

jumped : (symbols : List SymbolItem) (scopes : List NodeAt) (next : Config) → enter_jump symbols scopes ≡ Some next → symbols ≡ next.stacks.symbols
jumped symbols [] next e = cc
jumped symbols (scope ∷ rest) next e = same_stacks (at_node scope (stacks_of symbols rest)) next e

high-at : (at : NodeAt) (action : Action) (symbols : List SymbolItem) (scopes : List NodeAt) (o : Option Stacks) (next : Config)
    → enter action (stacks_of symbols scopes) ≡ o → option_map (at_node at) o ≡ Some next
    → (peak_by action + length symbols) - length (asked_by action).symbols ≡ max (length symbols) (length next.stacks.symbols)
high-at at action symbols scopes None next e f = cc
high-at at action symbols scopes (Some t) next e f =
    entry-high action symbols scopes t e ∙ ap (λ xs. max (length symbols) (length xs)) (same_stacks (at_node at t) next f)

high-node : (n : ℕ) (symbols : List SymbolItem) (scopes : List NodeAt) (o : Option Node) (next : Config) → entered n (stacks_of symbols scopes) o ≡ Some next
    → (peak_by (action_there o) + length symbols) - length (asked_by (action_there o)).symbols ≡ max (length symbols) (length next.stacks.symbols)
high-node n symbols scopes None next e = cc
high-node n symbols scopes (Some node) next e =
    high-at (node_at 0 n) (action_of 0 node.kind) symbols scopes (enter (action_of 0 node.kind) (stacks_of symbols scopes)) next refl e

high : (g : Graph) (sink : Place) (s : Stacks) (next : Config) → enter_place (alone g) 0 sink s ≡ Some next
    → (peak_by (place_action g sink) + length s.symbols) - length (asked_by (place_action g sink)).symbols ≡ max (length s.symbols) (length next.stacks.symbols)
high g place.Root s next e = max-same (length s.symbols) ∙ ap (λ xs. max (length s.symbols) (length xs)) (same_stacks (at_root s) next e)
high g place.Jump s next e = max-same (length s.symbols) ∙ ap (λ xs. max (length s.symbols) (length xs)) (jumped s.symbols s.scopes next e)
high g (place.At n) s next e = high-node n s.symbols s.scopes (slice_get g.nodes n) next e

-- where a path stands that is after a source
nat_eq-sym : (a b : ℕ) → nat_eq a b ≡ nat_eq b a
nat_eq-sym a b = same_from_decides (nat_eq a b) (nat_eq b a) (Decides-eqb a b) (Decides-like (nat_eq b a) (λ e. sym e) (λ e. sym e) (Decides-eqb b a))

both-sym : (a b m n : ℕ) → (nat_eq a m && nat_eq b n) ≡ (nat_eq m a && nat_eq n b)
both-sym a b m n = ap (λ (x : Bool). x && nat_eq b n) (nat_eq-sym a m) ∙ ap (λ (x : Bool). nat_eq m a && x) (nat_eq-sym b n)

stands-root : (x : Spot) → is_root x ≡ spot_eq spot.Root x
stands-root spot.Root = refl
stands-root (spot.At node) = refl

stands-node : (n : ℕ) (x : Spot) → is_node 0 n x ≡ spot_eq (spot.At (node_at 0 n)) x
stands-node n spot.Root = refl
stands-node n (spot.At node) = both-sym node.file node.node 0 n

stands : (source : Place) (here x : Spot) → place_spot source ≡ Some here → stands_at 0 source x ≡ spot_eq here x
stands place.Root here x e = let f : spot.Root ≡ here = cc in stands-root x ∙ ap (λ (y : Spot). spot_eq y x) f
stands place.Jump here x e = cc
stands (place.At n) here x e = let f : spot.At (node_at 0 n) ≡ here = cc in stands-node n x ∙ ap (λ (y : Spot). spot_eq y x) f

-- an option taken apart and put together
as_it_is : (o : Option Config) → option_and_then (λ (c : Config). Some c) o ≡ o
as_it_is None = refl
as_it_is (Some c) = refl

-- the edge is followed from where the path stands
unit-step : (g : Graph) (e : ℕ) (edge : Edge) (here : Spot) (c : Config) → slice_get g.edges e ≡ Some edge → place_spot edge.source ≡ Some here
    → step (alone g) c (edge_alone e) ≡ cond (spot_eq here c.spot) (enter_place (alone g) 0 edge.sink c.stacks) None
unit-step g e edge here c s h =
    ap (option_and_then (λ (edge : Edge). follow (alone g) 0 edge c)) s
    ∙ ap (λ (b : Bool). cond b (enter_place (alone g) 0 edge.sink c.stacks) None) (stands edge.source here c.spot h)

begun : (F : Config → Option Config) (c : Config) (b : Bool) (there : Option Config) → F c ≡ cond b there None
    → cond b there None ≡ option_and_then F (cond b (Some c) None)
begun F c true there e = sym e
begun F c false there e = refl

max-twice : (a b : ℕ) → max a b ≡ max a (max a b)
max-twice a b = omega arith

abbrev high_next : List Graph → Config → EdgeAt → Option Config → ℕ
high_next files c e o = max (length c.stacks.symbols) (option_map_or (λ (next : Config). highest files next []) o 0)

high-after : (files : List Graph) (c : Config) (e : EdgeAt) (b : Bool) (there : Option Config) (h : ℕ) → step files c e ≡ cond b there None → IsSome (cond b there None)
    → ((next : Config) → there ≡ Some next → h ≡ max (length c.stacks.symbols) (length next.stacks.symbols))
    → h ≡ max (length c.stacks.symbols) (option_map_or (λ (first : Config). highest files first (e ∷ [])) (cond b (Some c) None) 0)
high-after files c e false there h s is k = cc
high-after files c e true None h s is k = cc
high-after files c e true (Some next) h s is k =
    k next refl ∙ max-twice (length c.stacks.symbols) (length next.stacks.symbols)
    ∙ ap (λ (o : Option Config). max (length c.stacks.symbols) (high_next files c e o)) (sym s)

high-begun : (files : List Graph) (c : Config) (b : Bool) (there : Option Config) (h : ℕ) → IsSome (cond b there None)
    → ((next : Config) → there ≡ Some next → h ≡ max (length c.stacks.symbols) (length next.stacks.symbols))
    → h ≡ max (length c.stacks.symbols) (option_map_or (λ (first : Config). highest files first []) (cond b there None) 0)
high-begun files c false there h is k = cc
high-begun files c true None h is k = cc
high-begun files c true (Some next) h is k = k next refl

-- the path of one edge
unit-applied : (g : Graph) (edge : Edge) (here : Spot) (es : List EdgeAt) (c : Config) → IsTrue (has_place (length g.nodes) edge.sink)
    → apply (place_rule g (After here) edge.sink es) c ≡ cond (spot_eq here c.spot) (enter_place (alone g) 0 edge.sink c.stacks) None
unit-applied g edge here es c there =
    ap (λ (o : Option Config). cond (spot_eq here c.spot) o None) (lands g edge.sink c.stacks there)

pub unit-exact : (g : Graph) (e : ℕ) (edge : Edge) (here : Spot) → slice_get g.edges e ≡ Some edge → place_spot edge.source ≡ Some here
    → IsTrue (has_place (length g.nodes) edge.sink) → IsRuleOf g (place_rule g (After here) edge.sink (edge_alone e ∷ []))
unit-exact g e edge here s h there = record {
  files = place_in (λ (file : ℕ). file ≡ 0) refl g (After here) edge.sink (edge_alone e ∷ [])
      (source_in (λ (file : ℕ). file ≡ 0) refl edge.source here h)
      (All-cons (EdgeIn (λ (file : ℕ). file ≡ 0)) (edge_alone e) [] refl (All-nil (EdgeIn (λ (file : ℕ). file ≡ 0))));
  applies = λ (c : Config).
      unit-applied g edge here (edge_alone e ∷ []) c there
      ∙ begun (λ (first : Config). run (alone g) first (edge_alone e ∷ [])) c (spot_eq here c.spot) (enter_place (alone g) 0 edge.sink c.stacks)
      (as_it_is (step (alone g) c (edge_alone e)) ∙ unit-step g e edge here c s h);
  peak = λ (c : Config) is.
      high-after (alone g) c (edge_alone e) (spot_eq here c.spot) (enter_place (alone g) 0 edge.sink c.stacks)
      (height (place_rule g (After here) edge.sink (edge_alone e ∷ [])) c) (unit-step g e edge here c s h)
      (subst (λ (o : Option Config). IsSome o) (unit-applied g edge here (edge_alone e ∷ []) c there) is)
      (λ next f. high g edge.sink c.stacks next f);
}

-- the opening of a reference
opening-applied : (g : Graph) (n : ℕ) (c : Config) → IsTrue (has_place (length g.nodes) (place.At n))
    → apply (place_rule g (Before (node_at 0 n)) (place.At n) []) c ≡ cond (spot_eq (spot.At (node_at 0 n)) c.spot) (enter_place (alone g) 0 (place.At n) c.stacks) None
opening-applied g n c there =
    ap (λ (o : Option Config). cond (spot_eq (spot.At (node_at 0 n)) c.spot) o None) (lands g (place.At n) c.stacks there)

pub opening-exact : (g : Graph) (n : ℕ) → IsTrue (has_place (length g.nodes) (place.At n)) → IsRuleOf g (place_rule g (Before (node_at 0 n)) (place.At n) [])
opening-exact g n there = record {
  files = place_in (λ (file : ℕ). file ≡ 0) refl g (Before (node_at 0 n)) (place.At n) [] refl (All-nil (EdgeIn (λ (file : ℕ). file ≡ 0)));
  applies = λ (c : Config). opening-applied g n c there ∙ sym (as_it_is (cond (spot_eq (spot.At (node_at 0 n)) c.spot) (enter_place (alone g) 0 (place.At n) c.stacks) None));
  peak = λ (c : Config) is.
      high-begun (alone g) c (spot_eq (spot.At (node_at 0 n)) c.spot) (enter_place (alone g) 0 (place.At n) c.stacks)
      (height (place_rule g (Before (node_at 0 n)) (place.At n) []) c)
      (subst (λ (o : Option Config). IsSome o) (opening-applied g n c there) is)
      (λ next f. high g (place.At n) c.stacks next f);
}

-- a reference is there
reference-at : (nodes : List Node) (n : ℕ) (o : Option Node) → slice_get nodes n ≡ o
    → IsTrue (option_map_or (λ (node : Node). is_reference_kind node.kind) o false) → IsTrue (nat_lt n (length nodes))
reference-at nodes n None e h = cc
reference-at nodes n (Some node) e h = let below : n < length nodes = slice_get_within nodes n node e in grind (arith, nat_tests)

pub reference-there : (nodes : List Node) (n : ℕ) → IsTrue (is_reference nodes n) → IsTrue (has_place (length nodes) (place.At n))
reference-there nodes n h = reference-at nodes n (slice_get nodes n) refl h
