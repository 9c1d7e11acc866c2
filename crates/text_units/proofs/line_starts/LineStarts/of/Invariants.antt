use Rattle.std.proofs.Common.{◌≡◌}
use Rattle.text_units.specs.Lines.{starts_to}
use Rattle.text_units.proofs.line_starts.LineStarts.of.Given as goal

-- the starts so far
abbrev pub invariant-loop-i : goal.invariant-loop-i
invariant-loop-i l = l.starts.items ≡ starts_to l.text l.i
