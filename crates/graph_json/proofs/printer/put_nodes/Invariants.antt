use Rattle.graph_json.proofs.Tokens.{WroteNodes}
use Rattle.graph_json.proofs.printer.put_nodes.Given as goal

abbrev pub invariant-loop-n : goal.invariant-loop-n
invariant-loop-n l = WroteNodes l.named l.initial.out l.out l.n l.graph.nodes
