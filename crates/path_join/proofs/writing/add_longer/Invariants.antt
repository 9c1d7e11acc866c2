use Rattle.std.proofs.Common.{◌≡◌, ◌++◌}
use Rattle.std.specs.Iterator.Adapters.{zip_first, zip_second}
use Rattle.std.specs.Slice.Iter.{iter_rest}
use Rattle.path_join.specs.Joining.{longer_symbols}
use Rattle.path_join.proofs.writing.add_longer.Given as goal

abbrev pub invariant-loop-pat : goal.invariant-loop-pat
invariant-loop-pat l = record {
  can : (goal.iterator-loop-pat).can_next l.pat-iterator;
  finite : (goal.iterator-loop-pat).is_finite l.pat-iterator;
  left : l.symbols.items ++ longer_symbols (iter_rest (zip_first l.pat-iterator)) (iter_rest (zip_second l.pat-iterator)) ≡ l.initial.symbols.items ++ longer_symbols l.pats l.lists;
}
