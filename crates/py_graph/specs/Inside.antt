-- Which nodes a graph has, and that it has those of a context. No public clause cites this.
use Rattle.std.specs.Prelude.{◌≡◌, ℕ, ◌<◌, ◌≤◌, List, length, true, false, Option, Some, None, codes}
use Rattle.std.specs.List.{AllByRecursion}
use Rattle.graph_nodes.specs.declared.node.Node.{Node}
use Rattle.graph_nodes.specs.declared.node.Edge.{Edge}
use Rattle.graph_nodes.specs.Limits.{max_nodes}
use Rattle.graph_nodes.specs.Graph.{Graph}
use Rattle.graph_nodes.specs.Checked.{has_ends, is_jump, has_scope}
use Rattle.py_graph.specs.Contexts.{Context}

-- the second graph has at least as many nodes as the first
abbrev pub Grows : Graph → Graph → Type 0
Grows g h = length g.nodes ≤ length h.nodes

-- The graph has the node.
abbrev pub IsNode : Graph → ℕ → Type 0
IsNode g n = n < length g.nodes

-- a node, where there is one
abbrev pub IsNodeIf : Graph → Option ℕ → Type 0
IsNodeIf g None = Unit {0}
IsNodeIf g (Some n) = n < length g.nodes

-- The graph has both nodes.
abbrev pub ArePair : Graph → ℕ × ℕ → Type 0
ArePair g p = (p.0 < length g.nodes) × (p.1 < length g.nodes)

-- Where there is a pair, the graph has both nodes.
abbrev pub ArePairIf : Graph → Option (ℕ × ℕ) → Type 0
ArePairIf g None = Unit {0}
ArePairIf g (Some p) = (p.0 < length g.nodes) × (p.1 < length g.nodes)

-- Where there is a self, the graph has the node of its attributes.
abbrev pub IsSelfIf : Graph → Option (List ℕ × ℕ) → Type 0
IsSelfIf g None = Unit {0}
IsSelfIf g (Some p) = p.1 < length g.nodes

-- the graph has the nodes of the context
pub record IsInside (g : Graph) (c : Context) : Type 0 where
  pub b : c.b < length g.nodes
  pub l : c.l < length g.nodes
  pub o : c.o < length g.nodes
  pub r : IsNodeIf g c.r
  pub class : ArePairIf g c.class
  pub self : IsSelfIf g c.self

-- lists of nodes and edges in which each edge has ends that are there and each attached scope is exported
pub record IsSound (nodes : List Node) (edges : List Edge) : Type 0 where
  pub bound : length nodes ≤ max_nodes
  pub ends : AllByRecursion (λ (e : Edge). has_ends (length nodes) e ≡ true) edges
  pub sources : AllByRecursion (λ (e : Edge). is_jump e.source ≡ false) edges
  pub scopes : AllByRecursion (λ (n : Node). has_scope nodes n.kind ≡ true) nodes

-- a sound graph in the making, with the names that all its dots and all its calls share
pub record IsDraft (nodes : List Node) (edges : List Edge) (dot call : List ℕ) : Type 0 where
  pub sound : IsSound nodes edges
  pub dots : dot ≡ codes "."
  pub calls : call ≡ codes "()"
