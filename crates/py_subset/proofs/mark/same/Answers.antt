use Rattle.std.proofs.Common.{◌∙◌}
use Rattle.py_subset.proofs.MarkNumbers.{equal-same}
use Rattle.py_subset.proofs.mark.same.Goals as goal

pub returns : goal.returns
returns c = c.eq.ensures ∙ equal-same c.args.a c.args.b
