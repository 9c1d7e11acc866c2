use Rattle.std.proofs.Common.{◌≡◌, drop}
use Rattle.path_join.specs.Plain.{meets}
use Rattle.path_join.proofs.stored.meets.Given as goal

-- those left decide it
abbrev pub invariant-loop-i : goal.invariant-loop-i
invariant-loop-i l = meets l.pats l.outs ≡ meets (drop l.i l.pats) (drop l.i l.outs)
