use Rattle.std.proofs.Common.{◌≡◌, ◌≤◌, ◌++◌, map, drop, length}
use Rattle.partial_path.specs.Apply.{fill_item}
use Rattle.partial_path.specs.Left.{left_by}
use Rattle.partial_path.specs.Moved.{moved_symbol_out}
use Rattle.partial_path.proofs.filling.put_made.Given as goal

-- those from `left` on stand before what was there
abbrev pub invariant-loop-left : goal.invariant-loop-left
invariant-loop-left l = record {
  left : l.left ≤ length l.outs;
  put : l.symbols ≡ map (fill_item (left_by l.met.asked.now l.met.fixed.now l.met.at.now.stacks)) (map (moved_symbol_out l.base) (drop l.left l.outs)) ++ l.initial.symbols;
}

abbrev pub decreases-loop-left : goal.decreases-loop-left
decreases-loop-left l = l.left
