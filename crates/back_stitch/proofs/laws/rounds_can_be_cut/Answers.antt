use Rattle.back_stitch.proofs.Reached.{rounds_can_be_cut}
use Rattle.back_stitch.proofs.laws.rounds_can_be_cut.Goals as goal

pub returns : goal.returns
returns c = rounds_can_be_cut
