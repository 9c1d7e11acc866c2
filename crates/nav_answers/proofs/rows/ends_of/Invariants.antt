use Rattle.nav_answers.specs.Sources.{graphs_seen}
use Rattle.nav_answers.proofs.Kept.{IsUnderWay}
use Rattle.nav_answers.proofs.rows.ends_of.Given as goal

abbrev pub invariant-loop-run : goal.invariant-loop-run
invariant-loop-run l = IsUnderWay (graphs_seen l._view) l.runs l.kept l.run-index l.place l.ends.items
