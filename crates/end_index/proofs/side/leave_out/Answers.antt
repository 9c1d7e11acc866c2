use Rattle.std.proofs.Common.{arith}
use Rattle.std.proofs.lemmas.Bool.Decides.{nat_tests}
use Rattle.std.proofs.lemmas.List.Filters.{FiltersInPlace-more_no, FiltersInPlace-more_set}
use Rattle.end_index.proofs.side.leave_out.Goals.{then-place-file, else-place-file}
use Rattle.end_index.proofs.side.leave_out.Goals as goal

pub loop-i-preserved : goal.loop-i-preserved
loop-i-preserved c = elim c.if-place-file.branch [
  | then-place-file w ↦ rw (w.places-is, w.kept-is) (FiltersInPlace-more_set c.loop-i.invariant (omega arith) (grind (arith, nat_tests, w.if-place-file.true)) c.index-place.ensures)
  | else-place-file w ↦ rw (w.places-is, w.kept-is) (FiltersInPlace-more_no c.loop-i.invariant (omega arith) (grind (arith, nat_tests, w.if-place-file.false)) c.index-place.ensures)
]
