use Rattle.root_index.proofs.Grouped.{group_found, group_begun}
use Rattle.root_index.proofs.groups.Groups.group_for.Goals as goal

pub returns-clause-end : goal.returns-clause-end
returns-clause-end c =
    group_found c.args.slot.now c.args.self.now c.groups_up_to.result c.saturating_sub.result c.groups_up_to.ensures.sizes c.requires.order
    c.groups_up_to.ensures.value c.requires.some c.saturating_sub.ensures

pub returns-clause-first : goal.returns-clause-first
returns-clause-first c = group_begun c.args.slot.now c.args.self.now c.groups_up_to.result c.saturating_sub.result c.groups_up_to.ensures.value c.saturating_sub.ensures
