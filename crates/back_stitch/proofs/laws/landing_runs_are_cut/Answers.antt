use Rattle.back_stitch.proofs.CutFrom.{landing_runs_are_cut}
use Rattle.back_stitch.proofs.laws.landing_runs_are_cut.Goals as goal

pub returns : goal.returns
returns c = landing_runs_are_cut
