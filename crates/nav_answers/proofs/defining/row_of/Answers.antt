use Rattle.std.proofs.Common.{◌∙◌, ap}
use Rattle.std.specs.Option.{option_and_then}
use Rattle.graph_nodes.specs.declared.node.Node.{Node}
use Rattle.graph_nodes.specs.Whole.{node_of}
use Rattle.nav_answers.proofs.Numbers.{same_graphs}
use Rattle.nav_answers.proofs.defining.row_of.Goals as goal

pub returns : goal.returns
returns c =
    let path = c.in_ok-of.ensures ∙ c.path_of.ensures in
    let span = c.span_of.ensures ∙ ap (λ gs. option_and_then (λ (node : Node). node.span) (node_of gs c.args.hit.file c.args.hit.node)) (same_graphs c.args.view.now) in
    λ i. record { path = path i; node = c.args.hit.node; span = span i }
