use Rattle.std.proofs.Common.{◌≡◌, ◌≤◌, map, drop, take, reverse, length}
use Rattle.partial_path.specs.Apply.{after_fixed}
use Rattle.partial_path.specs.Moved.{moved_node}
use Rattle.partial_path.proofs.matching.left_after.Given as goal

abbrev pub invariant-loop-node : goal.invariant-loop-node
invariant-loop-node l =
    (l.left ≤ length l.fn.scopes)
    × (after_fixed (map (moved_node l.fn.base) l.fn.fixed) (reverse l.fn.scopes)
    ≡ after_fixed (map (moved_node l.fn.base) (drop l.node-index l.fixed)) (reverse (take l.left l.fn.scopes)))
