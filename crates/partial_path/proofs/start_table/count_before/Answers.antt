use Rattle.std.proofs.Common.{rules}
use Rattle.partial_path.specs.Starts.{is_before}
use Rattle.partial_path.proofs.Halved.{parted_before, start_side, starts_rise}
use Rattle.partial_path.proofs.start_table.count_before.Goals as goal

pub returns-clause-value : goal.returns-clause-value
returns-clause-value c =
    c.count_first.ensures.value (is_before c.args.start) (λ path passed k. search rules)
    (parted_before (start_side c.args.start) _ (starts_rise c.args.paths.now c.args.start c.requires))
