use Rattle.std.proofs.Common.{◌≡◌}
use Rattle.std.specs.Iterator.Adapters.{zip_first, zip_second}
use Rattle.std.specs.Slice.Iter.{iter_rest}
use Rattle.path_join.specs.Tables.{meet_made}
use Rattle.path_join.proofs.meeting.meet_made.Given as goal

abbrev pub invariant-loop-pat : goal.invariant-loop-pat
invariant-loop-pat l = record {
  can : (goal.iterator-loop-pat).can_next l.pat-iterator;
  finite : (goal.iterator-loop-pat).is_finite l.pat-iterator;
  left : meet_made l.known (iter_rest (zip_first l.pat-iterator)) (iter_rest (zip_second l.pat-iterator)) ≡ meet_made l.initial.known l.pats l.outs;
}
