use Rattle.partial_path.proofs.CutRuns.{counted_runs_are_cut}
use Rattle.partial_path.proofs.laws.counted_runs_are_cut.Goals as goal

pub returns : goal.returns
returns c = counted_runs_are_cut
