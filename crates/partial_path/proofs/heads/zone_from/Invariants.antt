use Rattle.std.proofs.Common.{◌-◌}
use Rattle.partial_path.proofs.HeadOrders.{IsZone}
use Rattle.partial_path.proofs.heads.zone_from.Given as goal

abbrev pub invariant-loop-low : goal.invariant-loop-low
invariant-loop-low l = IsZone l.heads l.from l.low l.end l.high l.wanted

abbrev pub decreases-loop-low : goal.decreases-loop-low
decreases-loop-low l = l.end - l.low
