use Rattle.std.proofs.Common.{◌≡◌, ◌≤◌, ◌++◌, map, drop, length}
use Rattle.partial_path.specs.Moved.{moved_node}
use Rattle.partial_path.proofs.filling.put_fixed.Given as goal

-- those from `left` on stand before what was there
abbrev pub invariant-loop-left : goal.invariant-loop-left
invariant-loop-left l = record {
  left : l.left ≤ length l.fixed;
  put : l.scopes ≡ map (moved_node l.base) (drop l.left l.fixed) ++ l.initial.scopes;
}

abbrev pub decreases-loop-left : goal.decreases-loop-left
decreases-loop-left l = l.left
