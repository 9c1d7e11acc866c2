use Rattle.std.proofs.Common.{◌≡◌, drop, filter}
use Rattle.partial_path.specs.declared.config.Spot.TheVariants as spots
use Rattle.end_index.specs.Looks.{ends_inside}
use Rattle.end_index.proofs.inside.next_ending.Given as goal

-- none of those passed over ends there
abbrev pub invariant-loop-i : goal.invariant-loop-i
invariant-loop-i l = filter (ends_inside (spots.At l.node) l.node.file) (drop l.fn.place l.paths) ≡ filter (ends_inside (spots.At l.node) l.node.file) (drop l.i l.paths)
