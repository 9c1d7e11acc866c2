-- A node or an edge more leaves lists of nodes and edges sound, and sound lists are a graph.
use Rattle.std.proofs.Common.{◌≡◌, ℕ, zero, suc, ◌+◌, ◌<◌, ◌≤◌, List, [], ◌∷◌, ◌++◌, length, Bool, true, false, not, ◌&&◌, Option, Some, None, refl, sym, ap, arith, nat_lt, length-append, position, subst, Result, Ok, Err, OnOk, OnErr}
use Rattle.std.specs.List.{AllByRecursion, position_or_len}
use Rattle.std.proofs.lemmas.Bool.{ltb-true, lt-ltb}
use Rattle.std.proofs.lemmas.Bool.Decides.{nat_tests}
use Rattle.graph_nodes.specs.declared.node.Node.{Node}
use Rattle.graph_nodes.specs.declared.node.NodeKind.{NodeKind}
use Rattle.graph_nodes.specs.declared.node.NodeKind.TheVariants.{Scope, Push, PushScoped, Pop, PopScoped, Drops}
use Rattle.graph_nodes.specs.declared.node.Edge.{Edge}
use Rattle.graph_nodes.specs.declared.node.Place.{Place}
use Rattle.graph_nodes.specs.declared.node.Place.TheVariants as place
use Rattle.graph_nodes.specs.Limits.{max_nodes, max_edges}
use Rattle.graph_nodes.specs.Graph.{has_place, is_exported}
use Rattle.graph_nodes.specs.Checked.{has_ends, is_jump, has_scope, graph_fault}
use Rattle.py_subset.specs.declared.tree.Word.{Word}
use Rattle.graph_nodes.specs.declared.node.Span.{Span}
use Rattle.py_graph.specs.Contexts.{Context, in_module, in_function, in_class, at_place, self_of}
use Rattle.graph_nodes.specs.Graph.{Graph}
use Rattle.py_graph.specs.Inside.{IsSound, IsInside, Grows, IsNodeIf, ArePair, ArePairIf, IsSelfIf}

place-more : (m n : ℕ) (p : Place) → m ≤ n → has_place m p ≡ true → has_place n p ≡ true
place-more m n place.Root le h = refl
place-more m n place.Jump le h = refl
place-more m n (place.At i) le h = lt-ltb i n (let p = ltb-true i m h in omega arith)

both : (a b c d : Bool) → (a ≡ true → c ≡ true) → (b ≡ true → d ≡ true) → a && b ≡ true → c && d ≡ true
both true true c d f g h = rw (f refl, g refl) refl
both true false c d f g h = cc
both false b c d f g h = cc

ends-more : (m n : ℕ) (e : Edge) → m ≤ n → has_ends m e ≡ true → has_ends n e ≡ true
ends-more m n e le h = both (has_place m e.source) (has_place m e.sink) (has_place n e.source) (has_place n e.sink) (place-more m n e.source le) (place-more m n e.sink le) h

exported-more : (xs ys : List Node) (n : ℕ) → is_exported xs n ≡ true → is_exported (xs ++ ys) n ≡ true
exported-more [] ys n h = cc
exported-more (x ∷ xs) ys zero h = h
exported-more (x ∷ xs) ys (suc n) h = exported-more xs ys n h

scope-more : (xs ys : List Node) (k : NodeKind) → has_scope xs k ≡ true → has_scope (xs ++ ys) k ≡ true
scope-more xs ys (PushScoped symbol scope reference) h = exported-more xs ys scope h
scope-more xs ys (Scope exported) h = refl
scope-more xs ys (Push symbol reference) h = refl
scope-more xs ys (Pop symbol definition) h = refl
scope-more xs ys (PopScoped symbol definition) h = refl
scope-more xs ys Drops h = refl

weaker : {X : Type 0} (P Q : X → Type 0) (xs : List X) → ((x : X) → P x → Q x) → AllByRecursion P xs → AllByRecursion Q xs
weaker P Q [] f h = tt
weaker P Q (x ∷ xs) f h = (f x h.0, weaker P Q xs f h.1)

snoc : {X : Type 0} (P : X → Type 0) (xs : List X) (x : X) → AllByRecursion P xs → P x → AllByRecursion P (xs ++ x ∷ [])
snoc P [] x h p = (p, tt)
snoc P (y ∷ xs) x h p = (h.0, snoc P xs x h.1 p)

joined-all : {X : Type 0} (P : X → Type 0) (xs ys : List X) → AllByRecursion P xs → AllByRecursion P ys → AllByRecursion P (xs ++ ys)
joined-all P [] ys h k = k
joined-all P (x ∷ xs) ys h k = (h.0, joined-all P xs ys h.1 k)

longer : (xs : List Node) (n : Node) → length xs ≤ length (xs ++ n ∷ [])
longer xs n = simp length-append (omega arith)

pub sound-node : (nodes : List Node) (edges : List Edge) (n : Node) → IsSound nodes edges → length nodes < max_nodes → has_scope nodes n.kind ≡ true → IsSound (nodes ++ n ∷ []) edges
sound-node nodes edges n s lt scope = record {
  bound = simp length-append (omega arith);
  ends = weaker (λ (e : Edge). has_ends (length nodes) e ≡ true) (λ (e : Edge). has_ends (length (nodes ++ n ∷ [])) e ≡ true) edges (λ e h. ends-more (length nodes) (length (nodes ++ n ∷ [])) e (longer nodes n) h) s.ends;
  sources = s.sources;
  scopes = snoc (λ (m : Node). has_scope (nodes ++ n ∷ []) m.kind ≡ true) nodes n
      (weaker (λ (m : Node). has_scope nodes m.kind ≡ true) (λ (m : Node). has_scope (nodes ++ n ∷ []) m.kind ≡ true) nodes (λ m h. scope-more nodes (n ∷ []) m.kind h) s.scopes) (scope-more nodes (n ∷ []) n.kind scope);
}

pub sound-edge : (nodes : List Node) (edges : List Edge) (e : Edge) → IsSound nodes edges → has_ends (length nodes) e ≡ true → is_jump e.source ≡ false → IsSound nodes (edges ++ e ∷ [])
sound-edge nodes edges e s ends source = record {
  bound = s.bound;
  ends = snoc (λ (d : Edge). has_ends (length nodes) d ≡ true) edges e s.ends ends;
  sources = snoc (λ (d : Edge). is_jump d.source ≡ false) edges e s.sources source;
  scopes = s.scopes;
}

none-passes : {X : Type 0} (p : X → Bool) (xs : List X) → AllByRecursion (λ x. p x ≡ false) xs → position_or_len p xs ≡ length xs
none-passes p [] h = refl
none-passes p (x ∷ xs) h = rw h.0 (omega (arith, none-passes p xs h.1))

not-less : (a b : ℕ) → b ≤ a → nat_lt a b ≡ false
not-less a b le = grind (arith, nat_tests)

no-position : {X : Type 0} (p : X → Bool) (xs : List X) → AllByRecursion (λ x. p x ≡ false) xs → position p xs ≡ None
no-position p xs h = rw (none-passes p xs h, not-less (length xs) (length xs) (omega arith)) refl

pub sound-graph : (nodes : List Node) (edges : List Edge) → IsSound nodes edges → length edges ≤ max_edges → graph_fault nodes edges ≡ None
sound-graph nodes edges s le =
    rw (
      not-less max_nodes (length nodes) s.bound,
      not-less max_edges (length edges) le,
      no-position (λ (e : Edge). not (has_ends (length nodes) e)) edges (weaker (λ (e : Edge). has_ends (length nodes) e ≡ true) (λ (e : Edge). not (has_ends (length nodes) e) ≡ false) edges (λ e h. ap not h) s.ends),
      no-position (λ (e : Edge). is_jump e.source) edges s.sources,
      no-position (λ (n : Node). not (has_scope nodes n.kind)) nodes (weaker (λ (n : Node). has_scope nodes n.kind ≡ true) (λ (n : Node). not (has_scope nodes n.kind) ≡ false) nodes (λ n h. ap not h) s.scopes),
    ) refl

pub node-if : (g h : Graph) (v : Option ℕ) → Grows g h → IsNodeIf g v → IsNodeIf h v
node-if g h None le p = tt
node-if g h (Some n) le p = omega arith

pub pair-if : (g h : Graph) (v : Option (ℕ × ℕ)) → Grows g h → ArePairIf g v → ArePairIf h v
pair-if g h None le p = tt
pair-if g h (Some n) le p = (omega arith, omega arith)

self-if : (g h : Graph) (v : Option (List ℕ × ℕ)) → Grows g h → IsSelfIf g v → IsSelfIf h v
self-if g h None le p = tt
self-if g h (Some n) le p = omega arith

-- a context stays inside a graph that grows
pub inside-more : (g h : Graph) (c : Context) → Grows g h → IsInside g c → IsInside h c
inside-more g h c le s = record { b = omega arith; l = omega arith; o = omega arith; r = node-if g h c.r le s.r; class = pair-if g h c.class le s.class; self = self-if g h c.self le s.self }

pub ends-of : (k u v q : ℕ) → u < k → v < k → has_ends k (record { source = place.At u; sink = place.At v; precedence = q }) ≡ true
ends-of k u v q lt mt = rw (lt-ltb u k lt, lt-ltb v k mt) refl

pub ends-from_root : (k v q : ℕ) → v < k → has_ends k (record { source = place.Root; sink = place.At v; precedence = q }) ≡ true
ends-from_root k v q lt = rw (lt-ltb v k lt) refl

pub ends-to_root : (k v q : ℕ) → v < k → has_ends k (record { source = place.At v; sink = place.Root; precedence = q }) ≡ true
ends-to_root k v q lt = rw (lt-ltb v k lt) refl

pub ends-to_jump : (k v q : ℕ) → v < k → has_ends k (record { source = place.At v; sink = place.Jump; precedence = q }) ≡ true
ends-to_jump k v q lt = rw (lt-ltb v k lt) refl

exported-last : (xs : List Node) (n : Node) (span : Option Span) (k : ℕ) → k ≡ length xs + 1 → is_exported (xs ++ n ∷ (record { kind = Scope true; span = span } ∷ [])) k ≡ true
exported-last [] n span k e = rw e refl
exported-last (x ∷ xs) n span zero e = absurd (omega arith)
exported-last (x ∷ xs) n span (suc k) e = exported-last xs n span k (omega arith)

pub sound-call : (nodes : List Node) (edges : List Edge) (symbol : List ℕ) (k : ℕ) → IsSound nodes edges → length nodes + 1 < max_nodes → k ≡ length nodes + 1
    → IsSound (nodes ++ record { kind = PushScoped symbol k false; span = None } ∷ record { kind = Scope true; span = None } ∷ []) edges
sound-call nodes edges symbol k s lt e =
    let first : Node = record { kind = PushScoped symbol k false; span = None } in
    let last : Node = record { kind = Scope true; span = None } in
    let two = first ∷ last ∷ [] in
    let le : length nodes ≤ length (nodes ++ two) = simp length-append (omega arith) in
    record {
      bound = simp length-append (omega arith);
      ends = weaker (λ (e : Edge). has_ends (length nodes) e ≡ true) (λ (e : Edge). has_ends (length (nodes ++ two)) e ≡ true) edges (λ e h. ends-more (length nodes) (length (nodes ++ two)) e le h) s.ends;
      sources = s.sources;
      scopes = joined-all (λ (m : Node). has_scope (nodes ++ two) m.kind ≡ true) nodes two
          (weaker (λ (m : Node). has_scope nodes m.kind ≡ true) (λ (m : Node). has_scope (nodes ++ two) m.kind ≡ true) nodes (λ m h. scope-more nodes two m.kind h) s.scopes)
          (exported-last nodes first None k e, (refl, tt));
    }

-- the contexts of blocks
pub inside-module : (g : Graph) (s : ℕ) → s < length g.nodes → IsInside g (in_module s)
inside-module g s lt = record { b = lt; l = lt; o = lt; r = tt; class = tt; self = tt }

self-inside : (g : Graph) (class : Option (ℕ × ℕ)) (xs : List Word) → ArePairIf g class → IsSelfIf g (self_of class xs)
self-inside g (Some z) (x ∷ xs) h = h.1
self-inside g (Some z) [] h = tt
self-inside g None xs h = tt

pub inside-function : (g : Graph) (s r : ℕ) (class : Option (ℕ × ℕ)) (xs : List Word) → s < length g.nodes → r < length g.nodes → ArePairIf g class → IsInside g (in_function s r (self_of class xs))
inside-function g s r class xs lt rt h = record { b = lt; l = lt; o = lt; r = rt; class = tt; self = self-inside g class xs h }

pub inside-class : (g : Graph) (b l : ℕ) (z : ℕ × ℕ) (c : Context) → b < length g.nodes → l < length g.nodes → ArePair g z → IsInside g c → IsInside g (in_class b l z c)
inside-class g b l z c bt lt h s = record { b = bt; l = lt; o = s.o; r = tt; class = h; self = tt }

pub inside-place : (g : Graph) (i : ℕ) (c : Context) → IsInside g c → IsInside g (at_place i c)
inside-place g i c s = record { b = s.b; l = s.l; o = s.o; r = s.r; class = s.class; self = s.self }

pub ruleset drafting = (ends-of, ends-from_root, ends-to_root, ends-to_jump, sound-node, sound-edge, sound-graph, sound-call)

pub sound-after : {X E : Type 0} (r : Result X E) (old more new : List Node) (edges : List Edge) → OnOk r (new ≡ old ++ more) → OnErr r (new ≡ old) → IsSound old edges → IsSound (old ++ more) edges → IsSound new edges
sound-after (Ok x) old more new edges ok err s t = subst (λ (ns : List Node). IsSound ns edges) (sym ok) t
sound-after (Err e) old more new edges ok err s t = subst (λ (ns : List Node). IsSound ns edges) (sym err) s

pub ruleset standing = (inside-more, inside-module, inside-function, inside-class, inside-place, pair-if, node-if, ends-of, ends-from_root, ends-to_root, ends-to_jump)
