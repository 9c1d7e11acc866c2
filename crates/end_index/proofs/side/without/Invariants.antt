use Rattle.std.proofs.Common.{◌≡◌, ◌++◌, filter, All}
use Rattle.end_index.specs.Ends.{all_of, is_of_other}
use Rattle.end_index.specs.Runs.{AreByRank}
use Rattle.end_index.proofs.side.without.Given as goal

-- what is left of the shares that came, with what is to be left of the others, and each in order
abbrev pub invariant-loop-share : goal.invariant-loop-share
invariant-loop-share l = record {
  all : all_of l.left.items ++ filter (is_of_other l.file) (all_of l.share-iterator.rest.items) ≡ filter (is_of_other l.file) (all_of l.fn.shares.items);
  order : All AreByRank l.left.items;
  rest : All AreByRank l.share-iterator.rest.items;
}
