use Rattle.partial_path.proofs.Joints.{paths_are_runs}
use Rattle.partial_path.proofs.laws.joined_paths_are_runs.Goals as goal

pub returns : goal.returns
returns c = paths_are_runs
