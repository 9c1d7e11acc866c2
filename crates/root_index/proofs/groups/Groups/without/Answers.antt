-- The paths of one group without the path are the group's among all paths without it.
use Rattle.std.proofs.Common.{sym, subst, ap, ◌∙◌, not}
use Rattle.std.specs.Prelude.{filter}
use Rattle.root_index.specs.Roots.{RootPath, AreByRank}
use Rattle.root_index.specs.Blocks.{IsStrict, is_tied}
use Rattle.root_index.proofs.Grouped.{sorted_group, strict_group, out_of_group}
use Rattle.root_index.proofs.groups.Groups.without.Goals as goal

pub without-requires-clause-order : goal.without-requires-clause-order
without-requires-clause-order c =
    subst AreByRank (sym c.in_ok-blocks.ensures)
    (sorted_group c.args.self c.group_for-i.result c.parted-rest.result.1 c.group_for-i.ensures.end.in_range c.parted-rest.ensures.one c.requires.order)

pub without-requires-clause-strict : goal.without-requires-clause-strict
without-requires-clause-strict c =
    subst IsStrict (sym c.in_ok-blocks.ensures)
    (strict_group c.args.self c.group_for-i.result c.parted-rest.result.1 c.group_for-i.ensures.end.in_range c.parted-rest.ensures.one c.requires.strict)

pub returns : goal.returns
returns c =
    let changed = c.in_ok-blocks-2.ensures ∙ ap (filter (λ (q : RootPath). not (is_tied c.args.slot.now q))) c.in_ok-blocks.ensures in
    let there = out_of_group c.args.slot.now c.args.self c.group_for-i.result c.parted-rest.result.1 c.parted-rest.ensures.one c.group_for-i.ensures.end c.group_for-i.ensures.first c.requires.strict in
    rw (← there, ← changed, ← c.parted-rest.ensures.before, ← c.parted-rest.ensures.after) c.joined.ensures
