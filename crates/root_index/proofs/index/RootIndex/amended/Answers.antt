use Rattle.std.proofs.Common.{subst, sym, ◌∙◌, ap, not}
use Rattle.std.specs.List.Sorted.{IsPermutation}
use Rattle.root_index.specs.Roots.{RootPath, AreByRank, all_roots}
use Rattle.root_index.specs.Amended.{is_touched, other_paths}
use Rattle.root_index.specs.Blocks.{all_paths}
use Rattle.root_index.proofs.WithoutFile.{order_kept}
use Rattle.root_index.proofs.WithFile.{amended_all}
use Rattle.root_index.proofs.index.RootIndex.amended.Goals as goal

pub with_edited-requires : goal.with_edited-requires
with_edited-requires c =
    let shared = ap all_paths c.in_ok-groups.ensures ∙ c.groups.ensures ∙ c.self.view_is in
    subst AreByRank (sym (c.in_ok-groups-2.ensures ∙ ap (other_paths c.args.edits.now) shared))
    (order_kept (λ (p : RootPath). not (is_touched c.args.edits.now p.path)) c.args.self.now c.requires.index.order)

pub invariant_of-result : goal.invariant_of-result
invariant_of-result c = subst AreByRank (sym c.in_ok-of.ensures) c.in_ok-groups-3.ensures.order

-- the paths of the other files and those of the touched rows are all paths of the new rows
pub returns : goal.returns
returns c =
    let shared = ap all_paths c.in_ok-groups.ensures ∙ c.groups.ensures ∙ c.self.view_is in
    let rest = c.in_ok-groups-2.ensures ∙ ap (other_paths c.args.edits.now) shared in
    record {
      all = subst (IsPermutation (all_roots c.args.new.now.content.rows)) (sym c.in_ok-of.ensures)
          (amended_all c.args.edits.now c.args.old.now.content c.args.new.now.content.rows c.args.self.now (all_paths c.in_ok-groups-2.groups) (all_paths c.in_ok-groups-3.groups)
          c.requires.index c.requires.rows rest c.in_ok-groups-3.ensures.all);
      order = invariant_of-result c;
    }
