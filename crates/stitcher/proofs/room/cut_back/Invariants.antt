use Rattle.std.proofs.Common.{◌≡◌, take}
use Rattle.stitcher.proofs.room.cut_back.Given as goal

-- what would be left of the trail is what would have been
abbrev pub invariant-loop-trail : goal.invariant-loop-trail
invariant-loop-trail l = take l.depth l.trail.items ≡ take l.depth l.initial.trail.items

abbrev pub decreases-loop-trail : goal.decreases-loop-trail
decreases-loop-trail l = goal.left-loop-trail l
