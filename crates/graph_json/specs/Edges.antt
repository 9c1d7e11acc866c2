-- Which JSON arrays are edges; both formats share it.
use Rattle.std.specs.Prelude.{Option, option_and_then}
use Rattle.serde_json.specs.Data.{Data}
use Rattle.serde_json.specs.Find.{at}
use Rattle.graph_nodes.specs.declared.node.Edge.{Edge}
use Rattle.graph_nodes.specs.declared.node.Place.{Place}
use Rattle.json_values.specs.Numbers.{only_if, u16_of}
use Rattle.graph_json.specs.Pieces.{◌>>=◌, has_items}

-- an edge between these places: an array of three, with the precedence last
unfoldable pub edge_in : Option Place → Option Place → Data → Option Edge
edge_in source sink d = do
  from ← source
  to ← sink
  precedence ← option_and_then u16_of (at 2 d)
  only_if (has_items 3 d) (record { source = from; sink = to; precedence = precedence })
