-- The graph that a text is, in format 1 or 2, or the first fault in it.
use Rattle.std.specs.Prelude.{ℕ, List, if◌then◌else◌, is_some, codes, Result, ok_or}
use Rattle.serde_json.specs.Data.{Data}
use Rattle.serde_json.specs.Find.{get}
use Rattle.json_values.specs.Text.{json_of}
use Rattle.graph_nodes.specs.declared.node.Node.{Node}
use Rattle.graph_nodes.specs.declared.node.Edge.{Edge}
use Rattle.graph_json.specs.declared.fault.GraphTextFault.{GraphTextFault}
use Rattle.graph_json.specs.declared.fault.GraphTextFault.TheVariants.{BadJson}
use Rattle.graph_json.specs.Collect.{◌>>=◌}
use Rattle.graph_json.specs.Plain.{plain_parts}
use Rattle.graph_json.specs.Named.{named_parts}
use Rattle.graph_json.specs.Top.{checked}

-- the nodes and edges of a value: one with a member `format` is read as format 2, any other as format 1
abbrev pub parts_of : Data → Result (List Node × List Edge) GraphTextFault
parts_of d = if is_some (get (codes "format") d) then named_parts d else plain_parts d

-- the nodes and edges of a graph file, or its first fault
unfoldable pub graph_from : List ℕ → Result (List Node × List Edge) GraphTextFault
graph_from bytes = do
  value ← ok_or (json_of bytes) BadJson
  parts ← parts_of value
  checked parts.0 parts.1
