use Rattle.partial_path.proofs.Returned.{returns_are_starts}
use Rattle.partial_path.proofs.laws.returns_are_starts.Goals as goal

pub returns : goal.returns
returns c = returns_are_starts
