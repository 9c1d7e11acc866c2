use Rattle.std.proofs.Common.{sym, ◌∙◌, subst}
use Rattle.std.specs.List.Sorted.{IsPartitionedBy}
use Rattle.partial_path.specs.Starts.{begins_at, is_before}
use Rattle.partial_path.proofs.Halved.{parted_at, run_is}
use Rattle.partial_path.proofs.Points.{rest_is, run_cut}
use Rattle.partial_path.proofs.start_table.halved_run.Goals as goal

pub count_at-many-requires : goal.count_at-many-requires
count_at-many-requires c =
    let start = c.args.start.now in
    let rest = rest_is (is_before start) (begins_at start) _ _ _ c.count_before-low.ensures.value _ c.between.ensures.value c.len.ensures in
    subst (IsPartitionedBy (begins_at start)) (sym rest) (parted_at c.args.paths.now start c.requires)

pub returns-clause-run : goal.returns-clause-run
returns-clause-run c =
    let start = c.args.start.now in
    let low = c.count_before-low.ensures.value in
    let rest = rest_is (is_before start) (begins_at start) _ _ _ low _ c.between.ensures.value c.len.ensures in
    run_cut (is_before start) (begins_at start) _ _ _ low _ rest c.count_at-many.ensures.value ∙ run_is c.args.paths.now start c.requires
