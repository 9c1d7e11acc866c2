use Rattle.std.proofs.Common.{◌≡◌, length}
use Rattle.partial_path.specs.Heads.{AreHeadsBelow}
use Rattle.partial_path.proofs.heads.heads_of.Given as goal

-- the heads so far are those of as many paths
abbrev pub invariant-loop-i : goal.invariant-loop-i
invariant-loop-i l = (length l.heads.items ≡ l.i) × AreHeadsBelow l.i l.heads.items l.paths
