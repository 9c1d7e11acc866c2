use Rattle.std.proofs.Common.{◌∙◌, sym}
use Rattle.py_graph.proofs.Parts.{without_init-yes}
use Rattle.py_graph.proofs.names.without_init.Goals as goal

pub returns-then-ends_in_init : goal.returns-then-ends_in_init
returns-then-ends_in_init c = without_init-yes c.args.parts.now (sym c.ends_in_init.ensures ∙ c.if-ends_in_init.true)
