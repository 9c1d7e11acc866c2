use Rattle.partial_path.proofs.CutJoints.{landings_tell}
use Rattle.partial_path.proofs.laws.landings_tell.Goals as goal

pub returns : goal.returns
returns c = landings_tell
