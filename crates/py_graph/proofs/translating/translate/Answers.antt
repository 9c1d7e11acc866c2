use Rattle.std.proofs.Common.{codes, false}
use Rattle.std.proofs.lemmas.Str.Pattern.{ends_text}
use Rattle.py_graph.proofs.Parts.{no_suffix}
use Rattle.py_graph.proofs.translating.translate.Goals as goal

pub returns-in-None : goal.returns-in-None
returns-in-None c = no_suffix c.args.path.now c.args.tree.now (ends_text false (codes ".py") c.args.path.now c.in-None.ensures.cases)
