use Rattle.partial_path.proofs.Cycles.{cycles}
use Rattle.partial_path.proofs.laws.cycles_are_cut.Goals as goal

pub returns : goal.returns
returns c = cycles
