use Rattle.partial_path.proofs.SwappedRuns.{moved_rules_are_runs}
use Rattle.partial_path.proofs.laws.moved_paths_are_runs.Goals as goal

pub returns : goal.returns
returns c = moved_rules_are_runs
