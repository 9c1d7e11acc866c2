use Rattle.partial_path.proofs.Edgeless.{no_edges_no_walks}
use Rattle.partial_path.proofs.laws.no_edges_no_walks.Goals as goal

pub returns : goal.returns
returns c = no_edges_no_walks
