-- Where paths of a file may be cut: at the root, at exported scopes and at turning nodes.
use Rattle.std.specs.Prelude.{ℕ, List, Bool, true, false, ◌||◌, nat_le, nat_eq, ◌&&◌}
use Rattle.std.specs.List.{list_any}
use Rattle.graph_nodes.specs.declared.node.Edge.{Edge}
use Rattle.graph_nodes.specs.declared.node.Place.{Place}
use Rattle.graph_nodes.specs.declared.node.Place.TheVariants.{Root, Jump, At}
use Rattle.graph_nodes.specs.Graph.{Graph, is_exported}

-- whether an edge from the one place to the other goes to this node from a node at the same or a later position
abbrev pub turns_between : Place → Place → ℕ → Bool
turns_between (At m) (At n) node = nat_eq n node && nat_le n m
turns_between (At m) Root node = false
turns_between (At m) Jump node = false
turns_between Root sink node = false
turns_between Jump sink node = false

-- whether the edge makes the node a turning node
abbrev pub turns_at : ℕ → Edge → Bool
turns_at node e = turns_between e.source e.sink node

-- whether the node is a turning node: the sink of an edge from a node at the same or a later position
abbrev pub is_turning : List Edge → ℕ → Bool
is_turning edges node = list_any (turns_at node) edges

-- whether a path is cut at the place: at the root, at jump, at exported scopes and at turning nodes
abbrev pub is_cut : Graph → Place → Bool
is_cut g Root = true
is_cut g Jump = true
is_cut g (At n) = is_exported g.nodes n || is_turning g.edges n
