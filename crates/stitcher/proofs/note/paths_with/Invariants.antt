use Rattle.std.proofs.Common.{◌≡◌, take}
use Rattle.stitcher.specs.Trail.{paths_of}
use Rattle.stitcher.proofs.note.paths_with.Given as goal

abbrev pub invariant-loop-joined : goal.invariant-loop-joined
invariant-loop-joined l = l.paths.items ≡ paths_of (take l.joined-index l.trail)
