use Rattle.std.proofs.Common.{◌≡◌}
use Rattle.std.specs.List.{dedup}
use Rattle.std.proofs.lemmas.List.Filters.{dedup_is}
use Rattle.nav_answers.proofs.Linked.{same_link, sorted_links, same_links}
use Rattle.nav_answers.proofs.links.sort.Goals as goal

pub returns-clause-order : goal.returns-clause-order
returns-clause-order c =
    let is : c.dedup.new.self.items ≡ dedup same_link c.put_in_order.new.list.items = dedup_is _ _ _ c.dedup.ensures.filtered in
    sorted_links c.put_in_order.new.list.items c.dedup.new.self.items c.put_in_order.ensures.sorted is

pub returns-clause-exact : goal.returns-clause-exact
returns-clause-exact c =
    let is : c.dedup.new.self.items ≡ dedup same_link c.put_in_order.new.list.items = dedup_is _ _ _ c.dedup.ensures.filtered in
    same_links c.args.list.now.items c.put_in_order.new.list.items c.dedup.new.self.items c.put_in_order.ensures.permutation is
