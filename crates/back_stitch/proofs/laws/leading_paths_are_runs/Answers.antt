use Rattle.back_stitch.proofs.CutFrom.{leading_paths_are_runs}
use Rattle.back_stitch.proofs.laws.leading_paths_are_runs.Goals as goal

pub returns : goal.returns
returns c = leading_paths_are_runs
