use Rattle.partial_path.proofs.OnlyCuts.{cuts_are_unique}
use Rattle.partial_path.proofs.laws.cuts_are_unique.Goals as goal

pub returns : goal.returns
returns c = cuts_are_unique
