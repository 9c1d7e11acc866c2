-- Sorted rows, each once, rise, and are the same rows.
use Rattle.std.proofs.Common.{◌≡◌}
use Rattle.std.specs.List.{dedup}
use Rattle.std.proofs.lemmas.List.Filters.{dedup_is}
use Rattle.back_stitch.proofs.InOrder.{same_node, sorted_rising, sorted_exact}
use Rattle.back_stitch.proofs.searching.in_order.Goals as goal

pub returns-clause-rising : goal.returns-clause-rising
returns-clause-rising c =
    let is : c.dedup.new.self.items ≡ dedup same_node c.sort_unstable.new.self.items = dedup_is _ _ _ c.dedup.ensures.filtered in
    sorted_rising c.sort_unstable.new.self.items c.dedup.new.self.items c.sort_unstable.ensures.sorted is

pub returns-clause-exact : goal.returns-clause-exact
returns-clause-exact c =
    let is : c.dedup.new.self.items ≡ dedup same_node c.sort_unstable.new.self.items = dedup_is _ _ _ c.dedup.ensures.filtered in
    sorted_exact c.args.rows.items c.sort_unstable.new.self.items c.dedup.new.self.items c.sort_unstable.ensures.permutation is
