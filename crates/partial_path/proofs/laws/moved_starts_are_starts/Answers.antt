use Rattle.partial_path.proofs.SwappedRuns.{moved_starts_are_starts}
use Rattle.partial_path.proofs.laws.moved_starts_are_starts.Goals as goal

pub returns : goal.returns
returns c = moved_starts_are_starts
