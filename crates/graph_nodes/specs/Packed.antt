-- How a `FileGraph` keeps its edges. No public clause cites this.
use Rattle.std.specs.Prelude.{ℕ, nat_eq, if◌then◌else◌}
use Rattle.graph_nodes.specs.declared.node.Edge.{Edge}
use Rattle.graph_nodes.specs.declared.node.Place.{Place}
use Rattle.graph_nodes.specs.declared.node.Place.TheVariants.{Root, Jump, At}
use Rattle.graph_nodes.specs.declared.packed.EdgeRow.{EdgeRow}

-- the place that a number stands for: above all nodes' positions one number is the root's and one is jump's
abbrev pub place_in : ℕ → Place
place_in n = if nat_eq n 65535 then Root else (if nat_eq n 65534 then Jump else At n)

-- the edge that a row holds
abbrev pub edge_in : EdgeRow → Edge
edge_in row = record {
  source = place_in row.source;
  sink = place_in row.sink;
  precedence = row.precedence;
}
