use Rattle.std.proofs.Common.{◌≡◌, take}
use Rattle.end_index.proofs.side.are_same.Given as goal

-- the first ones, so many, are the same
abbrev pub invariant-loop-i : goal.invariant-loop-i
invariant-loop-i l = take l.i l.one ≡ take l.i l.other
