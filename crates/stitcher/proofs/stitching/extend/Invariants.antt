use Rattle.std.proofs.Common.{ℕ, ◌≡◌, ◌++◌, List, length, flat_map}
use Rattle.partial_path.specs.Rules.{Rule}
use Rattle.stitcher.specs.Joins.{joined_by}
use Rattle.stitcher.specs.Opens.{AreTaken, AreAdded}
use Rattle.stitcher.specs.Trail.{stood}
use Rattle.stitcher.proofs.stitching.extend.Given as goal

abbrev pub invariant-loop-found : goal.invariant-loop-found
invariant-loop-found g l = record {
  added : AreAdded l.search l.here.trail.now l.initial.progress l.progress;
  taken : (gone : List (ℕ × Rule)) × (gone ++ g.P.PathSource.offered l.source l.symbols l.next ≡ g.P.PathSource.offered l.source l.symbols l.initial.next) × AreTaken l.search l.here.trail.now (flat_map (joined_by l.search (stood l.here)) gone) l.initial.progress l.progress;
}

abbrev pub decreases-loop-found : goal.decreases-loop-found
decreases-loop-found g l = length (g.P.PathSource.offered l.source l.symbols l.next)
