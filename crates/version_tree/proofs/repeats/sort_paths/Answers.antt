use Rattle.std.proofs.Common.{ap, rules}
use Rattle.std.specs.Ordering.{is_lt}
use Rattle.std.proofs.lemmas.Fn.{always_returns_same}
use Rattle.std.proofs.lemmas.List.Sorted.{ranks_by}
use Rattle.version_tree.proofs.Order.{path_total}
use Rattle.version_tree.proofs.repeats.sort_paths.Goals as goal

pub returns-clause-sorted : goal.returns-clause-sorted
returns-clause-sorted c = c.in_ok-sort_by.ensures.sorted _ (ranks_by path_total (λ p. p.now)) (always_returns_same _ _ _ (λ a r g called. (ap is_lt (search rules), search rules)))
