-- The rows are those of as many nodes as there are kinds.
use Rattle.std.proofs.Common.{arith, map, sym, ◌∙◌}
use Rattle.graph_nodes.specs.Packed.{edge_in}
use Rattle.graph_nodes.specs.Spans.{nodes_from}
use Rattle.graph_nodes.proofs.Faults.{graph_fault-none}
use Rattle.graph_nodes.proofs.Split.{nodes_length}
use Rattle.graph_nodes.proofs.graph.FileGraph.edges_from.Goals as goal

pub row_of-requires-clause-count : goal.row_of-requires-clause-count
row_of-requires-clause-count c =
    let n = nodes_length 0 c.self.inside.kinds.items c.self.inside.spans.items in
    omega (arith, n, (graph_fault-none (nodes_from 0 c.self.inside.kinds.items c.self.inside.spans.items) (map edge_in c.self.inside.edges.items) c.self.invariant.1.checked).few_nodes, c.len.ensures, c.self.inside.kinds.ok.0)

pub row_of-requires-clause-place : goal.row_of-requires-clause-place
row_of-requires-clause-place c =
    let n = c.len.ensures ∙ c.self.inside.kinds.ok.0 ∙ sym (nodes_length 0 c.self.inside.kinds.items c.self.inside.spans.items) in
    let there = rw (← c.self.view_is) at c.requires in
    rw n there

pub row_of-requires-clause-rows : goal.row_of-requires-clause-rows
row_of-requires-clause-rows c =
    let n = c.len.ensures ∙ c.self.inside.kinds.ok.0 ∙ sym (nodes_length 0 c.self.inside.kinds.items c.self.inside.spans.items) in
    (map edge_in c.self.inside.edges.items, rw n c.self.invariant.1.rows_right)

pub returns : goal.returns
returns c =
    let n = c.len.ensures ∙ c.self.inside.kinds.ok.0 ∙ sym (nodes_length 0 c.self.inside.kinds.items c.self.inside.spans.items) in
    let there = rw (← c.self.view_is) at c.requires in
    let right = c.self.invariant.1.rows_right.right c.args.place there in
    rw (← c.self.view_is) (c.over.ensures ∙ rw n at c.row_of.ensures ∙ right)
