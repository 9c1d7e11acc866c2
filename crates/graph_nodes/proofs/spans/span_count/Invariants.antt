use Rattle.std.proofs.Common.{◌≤◌}
use Rattle.graph_nodes.proofs.spans.span_count.Given as goal

abbrev pub invariant-loop-node : goal.invariant-loop-node
invariant-loop-node l = l.count ≤ l.node-index
