-- The top of a graph file: an object of the arrays of nodes and edges, and in format 2 of the member `format`.
use Rattle.std.specs.Prelude.{ℕ, List, Bool, ◌||◌, ◌&&◌, Option, option_map, codes, Result, ok_or}
use Rattle.std.specs.Str.{bytes_eq}
use Rattle.serde_json.specs.Data.{Data}
use Rattle.graph_nodes.specs.declared.node.Node.{Node}
use Rattle.graph_nodes.specs.declared.node.Edge.{Edge}
use Rattle.graph_nodes.specs.Checked.{graph_fault}
use Rattle.graph_json.specs.declared.fault.GraphTextFault.{GraphTextFault}
use Rattle.graph_json.specs.declared.fault.GraphTextFault.TheVariants.{BadShape, Graph}
use Rattle.graph_json.specs.declared.fault.Part.TheVariants.{Top}
use Rattle.json_values.specs.Numbers.{only_if}
use Rattle.json_values.specs.Members.{has_only}
use Rattle.graph_json.specs.Pieces.{◌>>=◌, list_in}
use Rattle.graph_json.specs.Collect.{unless}

-- whether a graph file may have a member of this name; `format` is one in format 2
abbrev pub may_stand : Bool → List ℕ → Bool
may_stand named name =
    bytes_eq name (codes "nodes") || bytes_eq name (codes "edges")
    || (named && bytes_eq name (codes "format"))

-- the values of the nodes and of the edges, in an object of these members and no others
unfoldable pub lists_in : Bool → Data → Option (List Data × List Data)
lists_in named d = do
  nodes ← list_in (codes "nodes") d
  edges ← list_in (codes "edges") d
  only_if (has_only (may_stand named) d) (nodes, edges)

-- the same, or the fault
abbrev pub top_of : Bool → Data → Result (List Data × List Data) GraphTextFault
top_of named d = ok_or (lists_in named d) (BadShape Top)

-- the nodes and edges, where they are a graph, or the graph's first fault
abbrev pub checked : List Node → List Edge → Result (List Node × List Edge) GraphTextFault
checked nodes edges = unless (option_map Graph (graph_fault nodes edges)) (nodes, edges)
