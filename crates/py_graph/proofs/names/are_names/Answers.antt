use Rattle.std.proofs.Common.{◌∙◌}
use Rattle.py_graph.proofs.Parts.{are_names-some}
use Rattle.py_graph.proofs.names.are_names.Goals as goal

pub returns-then-parts-ne0 : goal.returns-then-parts-ne0
returns-then-parts-ne0 c = c.all_names.ensures ∙ are_names-some c.args.parts.now c.if-parts-ne0.true
