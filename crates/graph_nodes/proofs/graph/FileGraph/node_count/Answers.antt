-- There are as many nodes as kinds.
use Rattle.std.proofs.Common.{arith, map, sym, ◌∙◌}
use Rattle.graph_nodes.specs.Packed.{edge_in}
use Rattle.graph_nodes.specs.Spans.{nodes_from}
use Rattle.graph_nodes.proofs.Faults.{graph_fault-none}
use Rattle.graph_nodes.proofs.Split.{nodes_length}
use Rattle.graph_nodes.proofs.graph.FileGraph.node_count.Goals as goal

pub overflow_cast-result : goal.overflow_cast-result
overflow_cast-result c =
    let n = nodes_length 0 c.self.inside.kinds.items c.self.inside.spans.items in
    omega (arith, n, (graph_fault-none (nodes_from 0 c.self.inside.kinds.items c.self.inside.spans.items) (map edge_in c.self.inside.edges.items) c.self.invariant.1.checked).few_nodes, c.len.ensures, c.self.inside.kinds.ok.0)

pub returns-clause-value : goal.returns-clause-value
returns-clause-value c =
    rw (← c.self.view_is) (c.len.ensures ∙ c.self.inside.kinds.ok.0 ∙ sym (nodes_length 0 c.self.inside.kinds.items c.self.inside.spans.items))
