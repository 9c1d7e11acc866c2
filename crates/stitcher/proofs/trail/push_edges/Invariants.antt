use Rattle.std.proofs.Common.{◌≡◌, ◌++◌, map, take}
use Rattle.partial_path.specs.FileNumbers.{own_edge}
use Rattle.partial_path.specs.Moved.{moved_edge}
use Rattle.stitcher.proofs.trail.push_edges.Given as goal

abbrev pub invariant-loop-edge : goal.invariant-loop-edge
invariant-loop-edge l = l.edges.items ≡ l.initial.edges.items ++ map (moved_edge l.file) (map own_edge (take l.edge-index l.edge-items))
