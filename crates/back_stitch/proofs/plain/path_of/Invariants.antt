use Rattle.std.proofs.Common.{◌≡◌}
use Rattle.std.specs.Prelude.{slice_get}
use Rattle.back_stitch.specs.Sources.{rules_to}
use Rattle.back_stitch.specs.Plain.{ends_left}
use Rattle.back_stitch.proofs.plain.path_of.Given as goal

-- what is asked for among all is what is left to ask for among those left
abbrev pub invariant-loop-left : goal.invariant-loop-left
invariant-loop-left l = slice_get (rules_to l.files l.fn.spot) l.fn.k ≡ slice_get (ends_left l.files l.at) l.left

abbrev pub decreases-loop-left : goal.decreases-loop-left
decreases-loop-left l = l.left
