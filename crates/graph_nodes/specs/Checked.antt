-- Which lists of nodes and edges are a file graph, and else which fault comes first.
use Rattle.std.specs.Prelude.{◌≡◌, ℕ, List, length, Bool, true, false, not, ◌&&◌, nat_lt, Option, Some, None, position, if◌then◌else◌}
use Rattle.std.specs.Option.{option_map}
use Rattle.graph_nodes.specs.declared.node.Node.{Node}
use Rattle.graph_nodes.specs.declared.node.Edge.{Edge}
use Rattle.graph_nodes.specs.declared.node.NodeKind.{NodeKind}
use Rattle.graph_nodes.specs.declared.node.NodeKind.TheVariants.{Scope, Push, PushScoped, Pop, PopScoped, Drops}
use Rattle.graph_nodes.specs.declared.node.Place.{Place}
use Rattle.graph_nodes.specs.declared.node.Place.TheVariants.{Root, Jump, At}
use Rattle.graph_nodes.specs.declared.fault.GraphFault.{GraphFault}
use Rattle.graph_nodes.specs.declared.fault.GraphFault.TheVariants.{TooManyNodes, TooManyEdges, BadEnd, JumpSource, BadScope}
use Rattle.graph_nodes.specs.Limits.{max_nodes, max_edges}
use Rattle.graph_nodes.specs.Graph.{Graph, has_place, is_exported}

-- whether both ends of the edge are there, among so many nodes
abbrev pub has_ends : ℕ → Edge → Bool
has_ends count e = has_place count e.source && has_place count e.sink

-- whether the place is jump
abbrev pub is_jump : Place → Bool
is_jump Root = false
is_jump Jump = true
is_jump (At n) = false

-- whether the scope that a push_scoped node attaches is an exported scope; other nodes attach none
abbrev pub has_scope : List Node → NodeKind → Bool
has_scope nodes (PushScoped symbol scope reference) = is_exported nodes scope
has_scope nodes (Scope exported) = true
has_scope nodes (Push symbol reference) = true
has_scope nodes (Pop symbol definition) = true
has_scope nodes (PopScoped symbol definition) = true
has_scope nodes Drops = true

-- the number, where it is above the limit
abbrev pub above : ℕ → ℕ → Option ℕ
above limit n = if nat_lt limit n then Some n else None

-- the first fault there is, of two looked at in this order
abbrev pub first_of : Option GraphFault → Option GraphFault → Option GraphFault
first_of (Some fault) rest = Some fault
first_of None rest = rest

-- the first fault of these nodes and edges: the first kind in this order, and of that kind the least position
abbrev pub graph_fault : List Node → List Edge → Option GraphFault
graph_fault nodes edges =
    first_of (option_map TooManyNodes (above max_nodes (length nodes)))
    (first_of (option_map TooManyEdges (above max_edges (length edges)))
    (first_of (option_map BadEnd (position (λ (e : Edge). not (has_ends (length nodes) e)) edges))
    (first_of (option_map JumpSource (position (λ (e : Edge). is_jump e.source) edges))
    (option_map BadScope (position (λ (n : Node). not (has_scope nodes n.kind)) nodes)))))

-- the graph has no fault
abbrev pub IsChecked : Graph → Type 0
IsChecked g = graph_fault g.nodes g.edges ≡ None
