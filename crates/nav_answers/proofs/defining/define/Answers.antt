use Rattle.std.proofs.Common.{sym}
use Rattle.graph_nodes.specs.Graph.{is_reference_kind}
use Rattle.nav_answers.specs.declared.found.AskFault.TheVariants.{NoReference}
use Rattle.nav_answers.proofs.Told.{meant_is}
use Rattle.nav_answers.proofs.defining.define.Goals as goal

pub define_node-requires-clause-reference : goal.define_node-requires-clause-reference
define_node-requires-clause-reference c = meant_is is_reference_kind NoReference c.args.view.now c.args.path.now c.args.at c.in-Ok.node (sym c.in-Ok.ensures)
