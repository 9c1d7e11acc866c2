use Rattle.py_subset.proofs.Texts.{unique}
use Rattle.py_subset.proofs.laws.texts_are_read_once.Goals as goal

pub returns : goal.returns
returns c = unique
