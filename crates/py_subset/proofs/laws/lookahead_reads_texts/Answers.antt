use Rattle.py_subset.proofs.Texts.{by_lookahead}
use Rattle.py_subset.proofs.laws.lookahead_reads_texts.Goals as goal

pub returns : goal.returns
returns c = by_lookahead
