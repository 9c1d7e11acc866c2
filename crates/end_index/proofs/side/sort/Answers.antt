use Rattle.std.proofs.Common.{rules}
use Rattle.std.specs.Ordering.{is_lt}
use Rattle.std.proofs.lemmas.List.Sorted.{answers_always}
use Rattle.end_index.specs.Runs.{rank, rank_cmp}
use Rattle.end_index.proofs.Ordered.{order_of_ranks}
use Rattle.end_index.proofs.side.sort.Goals as goal

pub returns-clause-order : goal.returns-clause-order
returns-clause-order c = c.sort_unstable_by.ensures.sorted (λ a b. is_lt (rank_cmp (rank a) (rank b))) order_of_ranks (answers_always _ _ _ (λ f a r g h. search rules))
