use Rattle.std.proofs.Common.{◌≡◌, take}
use Rattle.partial_path.specs.Cutting.{path_edges}
use Rattle.stitcher.proofs.complete.CompleteRun.edges.Given as goal

abbrev pub invariant-loop-path : goal.invariant-loop-path
invariant-loop-path l = l.edges.items ≡ path_edges (take l.path-index l.path-items)
