-- The paths of one group with the path are the group's among all paths with it.
use Rattle.std.proofs.Common.{sym, subst, ◌∙◌}
use Rattle.std.specs.List.{insert, prefix_len}
use Rattle.root_index.specs.Roots.{AreByRank}
use Rattle.root_index.specs.Blocks.{is_up_to}
use Rattle.root_index.proofs.Grouped.{sorted_group, put_in_group}
use Rattle.root_index.proofs.groups.Groups.with.Goals as goal

pub with-requires : goal.with-requires
with-requires c =
    subst AreByRank (sym c.in_ok-blocks.ensures)
    (sorted_group c.args.self c.group_for-i.result c.parted-rest.result.1 c.group_for-i.ensures.end.in_range c.parted-rest.ensures.one c.requires)

pub returns : goal.returns
returns c =
    let changed = c.in_ok-blocks-2.ensures ∙ (λ j. insert (c.in_ok-blocks.ensures j) (prefix_len (is_up_to c.args.slot) (c.in_ok-blocks.ensures j)) c.args.slot) in
    let there = put_in_group c.args.slot c.args.self c.group_for-i.result c.parted-rest.result.1 c.parted-rest.ensures.one c.group_for-i.ensures.end c.args.slot in
    rw (← there, ← changed, ← c.parted-rest.ensures.before, ← c.parted-rest.ensures.after) c.joined.ensures
