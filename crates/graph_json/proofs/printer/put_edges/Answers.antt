use Rattle.std.proofs.Common.{arith}
use Rattle.graph_json.proofs.Tokens.{no_edges, one_edge, adds_edges}
use Rattle.graph_json.proofs.printer.put_edges.Goals as goal

pub loop-e-init : goal.loop-e-init
loop-e-init c = no_edges c.args.named c.args.out.now c.args.graph.now.edges

pub loop-e-preserved : goal.loop-e-preserved
loop-e-preserved c =
    one_edge c.args.named c.args.out.now c.loop-e.out c.put_edge.new.out c.loop-e.e c.args.graph.now.edges c.edge.result c.edge.ensures c.loop-e.invariant
    (c.in_ok-put_edge.ensures).adds.ok (c.in_ok-put_edge.ensures).adds.before (c.in_ok-put_edge.ensures).fits

pub returns-clause-adds : goal.returns-clause-adds
returns-clause-adds c =
    adds_edges c.end_array.result c.args.named c.args.out.now c.loop-e.out c.end_array.new.self c.loop-e.e c.args.graph.now.edges (omega (arith, c.edge_count-e-end.ensures.value)) c.loop-e.invariant
    c.end_array.ensures.ok c.end_array.ensures.room.0
