-- Each edge of lists without a fault has its ends there, and so few nodes that its row holds them; kinds and spans are the
-- nodes again.
use Rattle.std.proofs.Common.{length, ap, ◌∙◌}
use Rattle.graph_nodes.specs.Inside.{IsIndexed}
use Rattle.graph_nodes.specs.Spans.{spans_from}
use Rattle.graph_nodes.proofs.Faults.{ends_in, ends_fit}
use Rattle.graph_nodes.proofs.Split.{nodes_split}
use Rattle.graph_nodes.proofs.graph.FileGraph.indexed.Goals as goal

pub rows_of-requires-clause-ends : goal.rows_of-requires-clause-ends
rows_of-requires-clause-ends c =
    ends_in c.args.nodes.items c.args.edges.items _ _ c.requires c.as_slice.ensures.value
    (ap length c.as_slice-count.ensures.value)

pub marks_of-requires : goal.marks_of-requires
marks_of-requires c =
    record {
      ends =
          ends_in c.args.nodes.items c.args.edges.items _ _ c.requires c.as_slice-3.ensures.value
          (ap length c.as_slice-2.ensures.value);
    }

pub packed-requires : goal.packed-requires
packed-requires c = ends_fit c.args.nodes.items c.args.edges.items c.as_slice-4.result.now c.requires c.as_slice-4.ensures.value

pub invariant_of-result : goal.invariant_of-result
invariant_of-result c =
    let spans = c.in_ok-spans.ensures ∙ ap (spans_from 0) c.as_slice-5.ensures.value in
    let nodes = nodes_split c.args.nodes.items c.in_ok-kinds.kinds.items c.in_ok-spans.spans.items c.in_ok-kinds.ensures spans in
    let right : IsIndexed c.args.nodes.items c.args.edges.items c.in_ok-rows.rows.starts.items c.in_ok-rows.rows.order.items c.in_ok-marks.marks.items =
    record {
      checked = c.requires;
      rows_right = rw (← c.as_slice.ensures.value, ← c.as_slice-count.ensures.value) c.in_ok-rows.ensures;
      marks_right = rw (← c.as_slice-2.ensures.value, ← c.as_slice-3.ensures.value) c.in_ok-marks.ensures;
    } in (
      rw nodes spans,
      rw (nodes, c.in_ok-edges.ensures, c.as_slice-4.ensures.value) right,
    )

pub returns-clause-nodes : goal.returns-clause-nodes
returns-clause-nodes c =
    nodes_split c.args.nodes.items c.in_ok-kinds.kinds.items c.in_ok-spans.spans.items c.in_ok-kinds.ensures
    (c.in_ok-spans.ensures ∙ ap (spans_from 0) c.as_slice-5.ensures.value)
