use Rattle.version_tree.proofs.GraphRows.{users}
use Rattle.version_tree.proofs.laws.users_see_graphs.Goals as goal

pub returns : goal.returns
returns c = users
