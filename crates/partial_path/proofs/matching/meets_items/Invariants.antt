use Rattle.std.proofs.Common.{◌≡◌, ◌≤◌, map, drop, take, reverse, length}
use Rattle.std.specs.Option.{is_some}
use Rattle.partial_path.specs.Apply.{match_items}
use Rattle.partial_path.specs.Moved.{moved_symbol}
use Rattle.partial_path.proofs.matching.meets_items.Given as goal

-- the symbols so far are met, so that the others decide
abbrev pub invariant-loop-pat : goal.invariant-loop-pat
invariant-loop-pat l = record {
  left : l.left ≤ length l.items;
  met : is_some (match_items (map (moved_symbol l.base) l.asked) l.symbols)
      ≡ is_some (match_items (map (moved_symbol l.base) (drop l.pat-index l.asked)) (reverse (take l.left l.items)));
}
