use Rattle.std.proofs.Common.{◌≡◌, ◌+◌, take}
use Rattle.text_units.specs.Units.{units_in}
use Rattle.text_units.proofs.columns.to_bytes.Given as goal

-- the units so far and what is left of them
abbrev pub invariant-loop-i : goal.invariant-loop-i
invariant-loop-i l = units_in (take l.i l.line) + l.left ≡ l.fn.units
