use Rattle.std.proofs.Common.{◌≡◌, map, take, false}
use Rattle.std.specs.List.{list_any}
use Rattle.partial_path.specs.Same.{config_eq}
use Rattle.stitcher.specs.Trail.{landed_at}
use Rattle.stitcher.proofs.trail.has_landed.Given as goal

abbrev pub invariant-loop-level : goal.invariant-loop-level
invariant-loop-level l = list_any (config_eq l.at) (map landed_at (take l.level-index l.levels)) ≡ false
