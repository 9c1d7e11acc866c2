use Rattle.std.proofs.Common.{◌≡◌, [], take}
use Rattle.std.specs.List.{flat_map}
use Rattle.partial_path.specs.Rules.{bad_place, tail_of}
use Rattle.partial_path.proofs.path.first_bad.Given as goal

abbrev pub invariant-loop-out : goal.invariant-loop-out
invariant-loop-out l = flat_map (bad_place l.asked) (flat_map tail_of (take l.out-index l.out-items)) ≡ []
