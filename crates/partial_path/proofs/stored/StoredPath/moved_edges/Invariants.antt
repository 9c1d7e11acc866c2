use Rattle.std.proofs.Common.{◌≡◌, map, take}
use Rattle.partial_path.specs.FileNumbers.{own_edge}
use Rattle.partial_path.specs.Moved.{moved_edge}
use Rattle.partial_path.proofs.stored.StoredPath.moved_edges.Given as goal

abbrev pub invariant-loop-edge : goal.invariant-loop-edge
invariant-loop-edge l = l.edges.items ≡ map (moved_edge l.base) (map own_edge (take l.edge-index l.numbers))
