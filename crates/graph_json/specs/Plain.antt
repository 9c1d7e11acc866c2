-- Format 1: nodes are named by their positions.
use Rattle.std.specs.Prelude.{ℕ, List, false, if◌then◌else◌, Option, Some, option_map, option_and_then, map, codes, Result, Ok}
use Rattle.std.specs.Option.{option_map_or}
use Rattle.std.specs.Str.{bytes_eq}
use Rattle.serde_json.specs.Data.{Data}
use Rattle.serde_json.specs.Find.{get, at, as_str}
use Rattle.graph_nodes.specs.declared.node.Node.{Node}
use Rattle.graph_nodes.specs.declared.node.Edge.{Edge}
use Rattle.graph_nodes.specs.declared.node.Place.{Place}
use Rattle.graph_nodes.specs.declared.node.Place.TheVariants.{Root, Jump, At}
use Rattle.graph_json.specs.declared.fault.GraphTextFault.{GraphTextFault}
use Rattle.graph_json.specs.declared.fault.GraphTextFault.TheVariants.{BadShape}
use Rattle.graph_json.specs.declared.fault.Part.TheVariants as Part
use Rattle.json_values.specs.Numbers.{only_if, u32_of}
use Rattle.graph_json.specs.Nodes.{node_in}
use Rattle.graph_json.specs.Edges.{edge_in}
use Rattle.graph_json.specs.Collect.{◌>>=◌, collected}
use Rattle.graph_json.specs.Top.{top_of}

-- a place that has a text: the root or jump
abbrev pub shared_place : List ℕ → List ℕ → List ℕ → Option Place
shared_place root jump text =
    if bytes_eq text root then Some Root else only_if (bytes_eq text jump) Jump

-- an edge's end: a position, `root` or `jump`
abbrev pub place_of : Data → Option Place
place_of d =
    option_map_or (shared_place (codes "root") (codes "jump")) (as_str d) (option_map At (u32_of d))

-- the position that the member `scope` is
abbrev pub scope_at : Data → Option ℕ
scope_at d = option_and_then u32_of (get (codes "scope") d)

-- a node, whose scope is a position
abbrev pub node_of : Data → Option Node
node_of d = node_in false (scope_at d) d

-- the end at that place of an edge's array
abbrev pub place_at : ℕ → Data → Option Place
place_at i d = option_and_then place_of (at i d)

-- an edge
abbrev pub edge_of : Data → Option Edge
edge_of d = edge_in (place_at 0 d) (place_at 1 d) d

-- the fault of a node, of an edge of a wrong shape
abbrev pub bad_node : ℕ → GraphTextFault
bad_node n = BadShape (Part.Node n)

abbrev pub bad_edge : ℕ → GraphTextFault
bad_edge e = BadShape (Part.Edge e)

-- the nodes and edges of a value in format 1, not yet checked to be a graph, or the first fault of shape
unfoldable pub plain_parts : Data → Result (List Node × List Edge) GraphTextFault
plain_parts d = do
  lists ← top_of false d
  nodes ← collected bad_node (map node_of lists.0)
  edges ← collected bad_edge (map edge_of lists.1)
  Ok (nodes, edges)
