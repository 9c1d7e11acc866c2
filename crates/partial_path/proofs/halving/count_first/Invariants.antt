use Rattle.std.proofs.Common.{◌≡◌, ◌-◌, ◌≤◌, Bool, length}
use Rattle.std.specs.Borrow.{Bor}
use Rattle.std.specs.List.Sorted.{IsPartitionedBy}
use Rattle.partial_path.specs.Rules.{Rule}
use Rattle.partial_path.proofs.Points.{IsBetween}
use Rattle.partial_path.proofs.halving.count_first.Given as goal

abbrev pub invariant-loop-low : goal.invariant-loop-low
invariant-loop-low g l =
    (l.low ≤ l.high)
    × (l.high ≤ length l.paths)
    × ((p : Rule → Bool) → ((path : Bor Rule) (passed : Bool) → goal.F-post g l.passes path passed → passed ≡ p path.now) → IsPartitionedBy p l.paths → IsBetween p l.paths l.low l.high)

abbrev pub decreases-loop-low : goal.decreases-loop-low
decreases-loop-low g l = l.high - l.low
