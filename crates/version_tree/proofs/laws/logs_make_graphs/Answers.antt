use Rattle.version_tree.proofs.GraphRows.{logs}
use Rattle.version_tree.proofs.laws.logs_make_graphs.Goals as goal

pub returns : goal.returns
returns c = logs
