use Rattle.graph_nodes.proofs.Marking.{AreMarkedTo}
use Rattle.graph_nodes.proofs.marks.marked.Given as goal

abbrev pub invariant-loop-n : goal.invariant-loop-n
invariant-loop-n l = AreMarkedTo l.n l.nodes l.edges l.marks.items
