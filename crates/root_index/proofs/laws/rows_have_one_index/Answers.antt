use Rattle.root_index.proofs.Unique.{one_index}
use Rattle.root_index.proofs.laws.rows_have_one_index.Goals as goal

pub returns : goal.returns
returns c = one_index
