use Rattle.std.proofs.Common.{◌≡◌, ◌-◌, take, drop}
use Rattle.partial_path.specs.Marks.{with_all, mark}
use Rattle.partial_path.proofs.marks.mark_of.Given as goal

-- the bytes left make the mark of what is there so far
abbrev pub invariant-loop-i : goal.invariant-loop-i
invariant-loop-i l = mark l.symbol ≡ with_all l.mark (take (64 - l.i) (drop l.i l.bytes))
