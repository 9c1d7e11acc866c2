use Rattle.std.proofs.Common.{◌≡◌, drop}
use Rattle.partial_path.specs.Keys.{key}
use Rattle.partial_path.specs.Sources.{stand_first}
use Rattle.partial_path.proofs.slots.stands_first.Given as goal

-- the texts left decide
abbrev pub invariant-loop-i : goal.invariant-loop-i
invariant-loop-i l = stand_first (key l.path) l.symbols ≡ stand_first (drop l.i (key l.path)) (drop l.i l.symbols)
