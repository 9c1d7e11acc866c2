use Rattle.std.proofs.Common.{◌∙◌, ap}
use Rattle.std.specs.Option.{option_and_then}
use Rattle.graph_nodes.specs.declared.node.Node.{Node}
use Rattle.graph_nodes.specs.Whole.{node_of}
use Rattle.nav_answers.proofs.Numbers.{same_graphs}
use Rattle.lsp_answers.proofs.referring.span_of.Goals as goal

pub returns : goal.returns
returns c = c.span_seen.ensures ∙ ap (λ gs. option_and_then (λ (n : Node). n.span) (node_of gs c.args.file c.args.node)) (same_graphs c.args.view.now)
