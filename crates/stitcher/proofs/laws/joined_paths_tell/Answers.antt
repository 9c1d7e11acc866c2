use Rattle.stitcher.proofs.Telling.{met_paths_tell}
use Rattle.stitcher.proofs.laws.joined_paths_tell.Goals as goal

pub returns : goal.returns
returns c = met_paths_tell c.cutting_laws.ensures
