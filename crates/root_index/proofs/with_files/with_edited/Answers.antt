use Rattle.std.proofs.Common.{rules, sym, ◌∙◌, ap, subst, List, ◌++◌}
use Rattle.std.specs.Ordering.{is_lt}
use Rattle.std.specs.List.Sorted.{IsPermutation}
use Rattle.std.proofs.lemmas.List.Sorted.{IsPermutation-trans, IsPermutation-append_comm, answers_always}
use Rattle.std.proofs.lemmas.Result.{IfOk-weaker}
use Rattle.root_index.specs.Roots.{RootPath, AreByRank, all_roots, rank, rank_cmp}
use Rattle.root_index.specs.Amended.{touched_rows}
use Rattle.root_index.specs.Blocks.{all_paths}
use Rattle.root_index.proofs.KeyOrders.{order_of_ranks}
use Rattle.root_index.proofs.WithFile.{put_to}
use Rattle.root_index.proofs.with_files.with_edited.Goals as goal

pub returns-then-edits-le-FEW_EDITS-clause-all : goal.returns-then-edits-le-FEW_EDITS-clause-all
returns-then-edits-le-FEW_EDITS-clause-all c =
    let touched = all_roots (touched_rows c.args.edits.now c.args.new.now.content.rows) in
    IfOk-weaker c.with_slots.result _ (λ more. IsPermutation (touched ++ all_paths c.args.groups) (all_paths more))
    (λ more e. put_to touched c.new-added.result.items c.add_edited.new.slots.items (all_paths c.args.groups) (all_paths more) c.new-added.ensures.items c.in_ok-add_edited.ensures e)
    c.with_slots.ensures.all

pub returns-clause-order : goal.returns-clause-order
returns-clause-order c =
    IfOk-weaker c.of.result _ (λ more. AreByRank (all_paths more))
    (λ more e. subst AreByRank (sym e)
    (c.in_ok-sort_by.ensures.sorted (λ a b. is_lt (rank_cmp (rank a) (rank b))) order_of_ranks (answers_always _ _ _ (λ f a r g h. search rules))))
    c.of.ensures

-- the sort only moves the old paths and those that were put behind them
pub returns-clause-all : goal.returns-clause-all
returns-clause-all c =
    let touched = all_roots (touched_rows c.args.edits.now c.args.new.now.content.rows) in
    let added : List RootPath = c.add_edited.new.slots.items in
    let before = all_paths c.args.groups in
    let sorted : List RootPath = c.sort_by.new.self.items in
    IfOk-weaker c.of.result _ (λ more. IsPermutation (touched ++ before) (all_paths more))
    (λ more e. subst (IsPermutation (touched ++ before)) (sym e)
    (put_to touched c.new-added.result.items added before sorted c.new-added.ensures.items c.in_ok-add_edited.ensures
    (IsPermutation-trans (added ++ before) (before ++ added) sorted (IsPermutation-append_comm added before)
    (subst (λ (ps : List RootPath). IsPermutation ps sorted) (c.in_ok-append.ensures.items ∙ ap (λ (ps : List RootPath). ps ++ added) c.in_ok-slots.ensures) c.in_ok-sort_by.ensures.permutation))))
    c.of.ensures
