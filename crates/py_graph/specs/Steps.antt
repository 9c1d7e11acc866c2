-- How the steps of the table are read. Nodes and edges are made in the order in which the steps stand, and a
-- node's position is the count of the nodes made before it.
use Rattle.std.specs.Prelude.{ℕ, List, [], ◌∷◌, ◌++◌, length, Option, Some, None, nat_lt, if◌then◌else◌}
use Rattle.py_subset.specs.declared.tree.Word.{Word}
use Rattle.graph_nodes.specs.declared.node.Node.{Node}
use Rattle.graph_nodes.specs.declared.node.NodeKind.{NodeKind}
use Rattle.graph_nodes.specs.declared.node.Span.{Span}
use Rattle.graph_nodes.specs.declared.node.Edge.{Edge}
use Rattle.graph_nodes.specs.declared.node.Place.{Place}
use Rattle.graph_nodes.specs.declared.node.Place.TheVariants as place
use Rattle.graph_nodes.specs.Limits.{max_nodes}
use Rattle.graph_nodes.specs.Graph.{Graph}

-- Steps with a value: they lead from the graph made so far to the value and the graph after them, or to
-- nothing where they would make more nodes than a file may have.
abbrev pub Steps : Type 0 → Type 0
Steps A = Graph → Option (A × Graph)

-- what follows from a value, on the graph after it
abbrev pub go_on : {A B : Type 0} → (A → Steps B) → Option (A × Graph) → Option (B × Graph)
go_on f None = None
go_on f (Some r) = f r.0 r.1

-- first the one, and then what follows from its value
infixl 10 ◌>>=◌
abbrev pub ◌>>=◌ : {A B : Type 0} → Steps A → (A → Steps B) → Steps B
p >>= f = λ g. go_on f (p g)

-- first the one, and then the other
infixl 10 ◌>>◌
abbrev pub ◌>>◌ : {A B : Type 0} → Steps A → Steps B → Steps B
p >> q = p >>= (λ _. q)

-- no step
abbrev pub value : {A : Type 0} → A → Steps A
value x = λ g. Some (x, g)

-- no step, and no value
abbrev pub nothing : Steps (Unit {0})
nothing = value tt

-- the position of the next node
abbrev pub here : Steps ℕ
here = λ g. Some (length g.nodes, g)

-- each in turn
abbrev pub each : List (Steps (Unit {0})) → Steps (Unit {0})
each [] = nothing
each (p ∷ ps) = p >> each ps

-- each in turn, with its value
abbrev pub collect : {A : Type 0} → List (Steps A) → Steps (List A)
collect [] = value []
collect (p ∷ ps) = do
  x ← p
  xs ← collect ps
  value (x ∷ xs)

-- the graph with a node more
abbrev pub with_node : Graph → Node → Graph
with_node g n = record { nodes = g.nodes ++ n ∷ []; edges = g.edges }

-- the graph with an edge more
abbrev pub with_edge : Graph → Edge → Graph
with_edge g e = record { nodes = g.nodes; edges = g.edges ++ e ∷ [] }

-- makes a node, and gives its position
abbrev pub node : NodeKind → Option Span → Steps ℕ
node kind span = λ g.
    if nat_lt (length g.nodes) max_nodes
    then Some (length g.nodes, with_node g (record { kind = kind; span = span }))
    else None

-- makes an edge
abbrev pub join : Place → Place → ℕ → Steps (Unit {0})
join u v q = λ g. Some (tt, with_edge g (record { source = u; sink = v; precedence = q }))

-- `u > v / q`
abbrev pub edge : ℕ → ℕ → ℕ → Steps (Unit {0})
edge u v q = join (place.At u) (place.At v) q

-- `u > v`
infix 20 ◌▸◌
abbrev pub ◌▸◌ : ℕ → ℕ → Steps (Unit {0})
u ▸ v = edge u v 0

-- `u > v` where v is a node
infix 20 ◌▸?◌
abbrev pub ◌▸?◌ : ℕ → Option ℕ → Steps (Unit {0})
u ▸? None = nothing
u ▸? (Some v) = u ▸ v

-- `root > v`
abbrev pub from_root : ℕ → Steps (Unit {0})
from_root v = join place.Root (place.At v) 0

-- `u > root`
abbrev pub to_root : ℕ → Steps (Unit {0})
to_root u = join (place.At u) place.Root 0

-- `u > jump`
abbrev pub to_jump : ℕ → Steps (Unit {0})
to_jump u = join (place.At u) place.Jump 0

-- `[x]`, where a name stands: from its line and column to its line and the column after it
abbrev pub span_of : Word → Span
span_of x = record {
  from_line = x.line;
  from_column = x.from_column;
  to_line = x.line;
  to_column = x.to_column;
}
