use Rattle.std.proofs.Common.{◌≡◌, take}
use Rattle.graph_nodes.specs.Spans.{spans_from}
use Rattle.graph_nodes.proofs.spans.spans_of.Given as goal

abbrev pub invariant-loop-n : goal.invariant-loop-n
invariant-loop-n l = l.spans.items ≡ spans_from 0 (take l.n l.nodes)
