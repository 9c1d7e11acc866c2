use Rattle.py_subset.proofs.Correct.{one}
use Rattle.py_subset.proofs.whole.one_module.Goals as goal

pub returns : goal.returns
returns c = one
