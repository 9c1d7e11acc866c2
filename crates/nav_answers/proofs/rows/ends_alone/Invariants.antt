use Rattle.std.proofs.Common.{◌≡◌, map, take}
use Rattle.nav_answers.specs.Kept.{end_of}
use Rattle.nav_answers.proofs.rows.ends_alone.Given as goal

abbrev pub invariant-loop-run : goal.invariant-loop-run
invariant-loop-run l = l.rows.items ≡ map end_of (take l.run-index l.runs)
