use Rattle.std.proofs.Common.{◌≡◌, ◌≤◌, ◌*◌, take}
use Rattle.text_units.specs.Units.{units_in}
use Rattle.text_units.proofs.columns.to_units.Given as goal

-- the units so far
abbrev pub invariant-loop-i : goal.invariant-loop-i
invariant-loop-i l = record {
  counted : l.units ≡ units_in (take l.i l.line);
  few : l.units ≤ 2 * l.i;
}
