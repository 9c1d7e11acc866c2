use Rattle.partial_path.proofs.OnlyCuts.{beginnings_are_cut}
use Rattle.partial_path.proofs.laws.beginnings_are_cut.Goals as goal

pub returns : goal.returns
returns c = beginnings_are_cut
