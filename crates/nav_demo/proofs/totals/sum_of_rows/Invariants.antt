use Rattle.std.proofs.Common.{◌≡◌, drop}
use Rattle.nav_demo.specs.Summary.{sum_of_rows}
use Rattle.nav_demo.proofs.totals.sum_of_rows.Given as goal

-- with the rows that are left it is the sum with all
abbrev pub invariant-loop-row : goal.invariant-loop-row
invariant-loop-row l = sum_of_rows l.files l.k l.all (drop l.row-index l.rows) ≡ sum_of_rows l.files l.k l.sum l.rows
