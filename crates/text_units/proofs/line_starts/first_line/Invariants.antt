use Rattle.std.proofs.Common.{◌≡◌, ◌++◌, take, drop}
use Rattle.text_units.specs.Lines.{first_line}
use Rattle.text_units.proofs.line_starts.first_line.Given as goal

-- no line end so far
abbrev pub invariant-loop-i : goal.invariant-loop-i
invariant-loop-i l = first_line l.text ≡ take l.i l.text ++ first_line (drop l.i l.text)
