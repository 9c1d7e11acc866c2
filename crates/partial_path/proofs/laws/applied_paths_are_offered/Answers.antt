use Rattle.partial_path.proofs.Applied.{applied_rules_are_offered}
use Rattle.partial_path.proofs.laws.applied_paths_are_offered.Goals as goal

pub returns : goal.returns
returns c = applied_rules_are_offered
