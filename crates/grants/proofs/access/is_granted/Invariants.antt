use Rattle.std.proofs.Common.{◌≡◌, ℕ, ◌<◌, ◌≤◌, length, None}
use Rattle.grants.specs.Steps.{verdict_at}
use Rattle.grants.proofs.access.is_granted.Given as goal

-- no longer prefix has a rule
abbrev pub invariant-loop-end : goal.invariant-loop-end
invariant-loop-end l = (l.end ≤ length l.path) × ((k : ℕ) → l.end < k → k ≤ length l.path → verdict_at (record { granted = l.granted; denied = l.denied }) l.user l.path k ≡ None)

abbrev pub decreases-loop-end : goal.decreases-loop-end
decreases-loop-end l = l.end
