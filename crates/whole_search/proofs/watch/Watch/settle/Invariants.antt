use Rattle.std.proofs.Common.{length, All}
use Rattle.whole_search.specs.Refusals.{IsDeadEnd}
use Rattle.whole_search.proofs.watch.Watch.settle.Given as goal

abbrev pub invariant-loop-place : goal.invariant-loop-place
invariant-loop-place l = All (IsDeadEnd l.query.files.now) l.self.dead_ends.kept.items

abbrev pub decreases-loop-place : goal.decreases-loop-place
decreases-loop-place l = length l.self.places.items
