use Rattle.std.proofs.Common.{◌≡◌, take, map}
use Rattle.graph_nodes.specs.Packed.{edge_in}
use Rattle.graph_nodes.proofs.packed.packed.Given as goal

abbrev pub invariant-loop-edge : goal.invariant-loop-edge
invariant-loop-edge l = map edge_in l.rows.items ≡ take l.edge-index l.edges
