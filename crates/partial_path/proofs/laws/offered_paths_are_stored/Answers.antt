use Rattle.partial_path.proofs.OfferedStored.{offered_rules_are_stored}
use Rattle.partial_path.proofs.laws.offered_paths_are_stored.Goals as goal

pub returns : goal.returns
returns c = offered_rules_are_stored
