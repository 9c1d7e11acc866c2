use Rattle.std.proofs.Common.{arith}
use Rattle.graph_json.specs.PrintSteps.{node_with}
use Rattle.graph_json.proofs.Tokens.{no_nodes, one_node, node_again, adds_nodes}
use Rattle.graph_json.proofs.printer.put_nodes.Goals as goal

pub loop-n-init : goal.loop-n-init
loop-n-init c = no_nodes c.args.named c.args.out.now c.args.graph.now.nodes

pub loop-n-preserved : goal.loop-n-preserved
loop-n-preserved c =
    one_node c.args.named c.args.out.now c.loop-n.out c.put_node.new.out c.loop-n.n c.args.graph.now.nodes (node_with c.kind.result.now c.span.result)
    (node_again c.args.graph.now.nodes c.loop-n.n c.kind.result.now c.span.result c.kind.ensures c.span.ensures) c.loop-n.invariant
    (c.in_ok-put_node.ensures).adds.ok (c.in_ok-put_node.ensures).adds.before (c.in_ok-put_node.ensures).fits

pub returns-clause-adds : goal.returns-clause-adds
returns-clause-adds c =
    adds_nodes c.end_array.result c.args.named c.args.out.now c.loop-n.out c.end_array.new.self c.loop-n.n c.args.graph.now.nodes (omega (arith, c.node_count-n-end.ensures.value)) c.loop-n.invariant
    c.end_array.ensures.ok c.end_array.ensures.room.0
