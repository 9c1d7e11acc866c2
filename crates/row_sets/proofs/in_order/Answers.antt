-- The sort puts the rows in order, and the pass leaves each node once.
use Rattle.std.proofs.Common.{◌≡◌, rules}
use Rattle.std.specs.List.{dedup}
use Rattle.std.specs.List.Sorted.{IsSortedBy}
use Rattle.std.specs.Ordering.{is_lt}
use Rattle.std.proofs.lemmas.Fn.{dedup_same}
use Rattle.std.proofs.lemmas.List.Sorted.{answers_always}
use Rattle.row_sets.specs.Rows.{place_cmp}
use Rattle.row_sets.proofs.InOrder.{ranks, same, in_order}
use Rattle.row_sets.proofs.in_order.Goals as goal

pub returns : goal.returns
returns c =
    let up : IsSortedBy (λ a b. is_lt (place_cmp a b)) c.sort_unstable_by.new.self.items = c.sort_unstable_by.ensures.sorted (λ a b. is_lt (place_cmp a b)) ranks (answers_always _ _ _ (λ f a r g h. search rules)) in
    let left : c.dedup_by.new.self.items ≡ dedup same c.sort_unstable_by.new.self.items = dedup_same _ same _ (λ x y b f' x' y' k. search rules) _ _ c.dedup_by.ensures.filtered in
    in_order c.args.rows.items c.sort_unstable_by.new.self.items c.dedup_by.new.self.items c.sort_unstable_by.ensures.permutation up left
