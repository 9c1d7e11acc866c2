-- The span is that of the node.
use Rattle.std.proofs.Common.{arith, sym, ap, ◌∙◌, length, ◌<◌, ◌≤◌}
use Rattle.graph_nodes.specs.Spans.{span_of}
use Rattle.graph_nodes.specs.Spans.{nodes_from}
use Rattle.graph_nodes.proofs.Split.{rising_spans, span_there, no_span_there}
use Rattle.graph_nodes.proofs.graph.FileGraph.span.Goals as goal

pub returns-then-n-len : goal.returns-then-n-len
returns-then-n-len c =
    let past : length c.self.inside.kinds.items ≤ c.args.n = omega (arith, c.if-n-len.true, c.len.ensures, c.self.inside.kinds.ok.0) in
    rw (← c.self.view_is) (sym (no_span_there c.self.inside.kinds.items c.self.inside.spans.items c.args.n past))

pub returns : goal.returns
returns c =
    let within : c.args.n < length c.self.inside.kinds.items = omega (arith, c.if-n-len.false, c.len.ensures, c.self.inside.kinds.ok.0) in
    rw (← c.self.view_is)
    (c.span_in.ensures ∙ ap (span_of c.args.n) c.as_slice.ensures.value ∙ sym (span_there c.self.inside.kinds.items c.self.inside.spans.items c.args.n within))

pub span_in-requires : goal.span_in-requires
span_in-requires c =
    rising_spans (nodes_from 0 c.self.inside.kinds.items c.self.inside.spans.items) _ (c.as_slice.ensures.value ∙ c.self.invariant.0)
