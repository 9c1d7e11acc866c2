use Rattle.partial_path.proofs.HighJoints.{joined_bounds}
use Rattle.partial_path.proofs.laws.joined_paths_tell_bounds.Goals as goal

pub returns : goal.returns
returns c = joined_bounds
