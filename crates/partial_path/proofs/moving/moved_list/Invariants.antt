use Rattle.std.proofs.Common.{◌≡◌, map, take}
use Rattle.partial_path.proofs.moving.moved_list.Given as goal

abbrev pub invariant-loop-item : goal.invariant-loop-item
invariant-loop-item g l = l.moved.items ≡ map (g.T.Moves.moved_by l.base) (take l.item-index l.items)
