use Rattle.std.proofs.Common.{length, flat_map}
use Rattle.stitcher.specs.Opens.{opens_of}
use Rattle.stitcher.proofs.UnderWay.{onward}
use Rattle.stitcher.proofs.Going.{IsGoing}
use Rattle.stitcher.proofs.stitching.join_all.Given as goal

abbrev pub invariant-loop-open : goal.invariant-loop-open
invariant-loop-open g l = IsGoing l.search l.trail.items l.progress.work.items l.progress.tally

abbrev pub decreases-loop-open : goal.decreases-loop-open
decreases-loop-open g l =
    length (flat_map (onward l.search) (opens_of l.trail.items l.progress.work.items))
