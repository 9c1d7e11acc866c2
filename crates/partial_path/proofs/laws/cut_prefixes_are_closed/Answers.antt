use Rattle.partial_path.proofs.Prefixes.{cut_prefixes}
use Rattle.partial_path.proofs.laws.cut_prefixes_are_closed.Goals as goal

pub returns : goal.returns
returns c = cut_prefixes
