-- The span at the first place that is no earlier node's tells.
use Rattle.std.proofs.Common.{sym}
use Rattle.graph_nodes.proofs.Split.{span_found, span_missed, span_past}
use Rattle.graph_nodes.proofs.spans.span_in.Goals as goal

pub returns-in-Some : goal.returns-in-Some
returns-in-Some c =
    sym (span_found c.args.n c.first_from.result c.args.spans.now c.in-Some.found.now c.first_from.ensures.earlier
    c.in-Some.ensures.lookup.3.0 c.in-Some.ensures.lookup.1 c.if-found-n.true)

pub returns-in-Some-2 : goal.returns-in-Some-2
returns-in-Some-2 c =
    sym (span_missed c.args.n c.first_from.result c.args.spans.now c.in-Some.found.now c.requires c.first_from.ensures
    c.in-Some.ensures.lookup.3.0 c.in-Some.ensures.lookup.1 c.if-found-n.false)

pub returns-in-Some-2-2 : goal.returns-in-Some-2-2
returns-in-Some-2-2 c = sym (span_past c.args.n c.first_from.result c.args.spans.now c.first_from.ensures c.in-Some-2.ensures.lookup.3)
