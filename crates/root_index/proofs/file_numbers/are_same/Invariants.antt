use Rattle.std.proofs.Common.{◌≡◌, take}
use Rattle.root_index.proofs.file_numbers.are_same.Given as goal

-- the bytes before this one are the same
abbrev pub invariant-loop-i : goal.invariant-loop-i
invariant-loop-i l = take l.i l.one ≡ take l.i l.other
