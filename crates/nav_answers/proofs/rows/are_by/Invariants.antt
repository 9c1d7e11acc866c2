use Rattle.std.proofs.Common.{◌≡◌, drop}
use Rattle.nav_answers.specs.Kept.{are_by}
use Rattle.nav_answers.proofs.rows.are_by.Given as goal

-- all steps so far are by the edges at their places
abbrev pub invariant-loop-i : goal.invariant-loop-i
invariant-loop-i l = are_by l.path l.edges ≡ are_by (drop l.i l.path) (drop l.i l.edges)
