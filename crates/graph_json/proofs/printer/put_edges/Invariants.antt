use Rattle.graph_json.proofs.Tokens.{WroteEdges}
use Rattle.graph_json.proofs.printer.put_edges.Given as goal

abbrev pub invariant-loop-e : goal.invariant-loop-e
invariant-loop-e l = WroteEdges l.named l.initial.out l.out l.e l.graph.edges
