use Rattle.std.proofs.Common.{◌-◌}
use Rattle.graph_nodes.proofs.Split.{IsZone}
use Rattle.graph_nodes.proofs.spans.first_from.Given as goal

abbrev pub invariant-loop-low : goal.invariant-loop-low
invariant-loop-low l = IsZone l.n l.low l.high l.spans

abbrev pub decreases-loop-low : goal.decreases-loop-low
decreases-loop-low l = l.high - l.low
