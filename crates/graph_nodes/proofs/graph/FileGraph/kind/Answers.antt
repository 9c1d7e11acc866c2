-- The kinds are those of the nodes.
use Rattle.std.proofs.Common.{arith, length, ◌<◌}
use Rattle.graph_nodes.proofs.Split.{nodes_length, kind_there}
use Rattle.graph_nodes.proofs.graph.FileGraph.kind.Goals as goal

pub index-requires : goal.index-requires
index-requires c =
    let lt = rw (← c.self.view_is) at c.requires in
    omega (arith, lt, nodes_length 0 c.self.inside.kinds.items c.self.inside.spans.items, c.self.inside.kinds.ok.0)

pub returns : goal.returns
returns c =
    let lt = rw (← c.self.view_is) at c.requires in
    let within : c.args.n < length c.self.inside.kinds.items = omega (arith, lt, nodes_length 0 c.self.inside.kinds.items c.self.inside.spans.items) in
    rw (← c.self.view_is) (kind_there c.self.inside.kinds.items c.self.inside.spans.items c.args.n c.index.result.now within c.index.ensures)
