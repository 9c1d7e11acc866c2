use Rattle.std.proofs.Common.{◌∙◌, sym}
use Rattle.nav_answers.proofs.Alike.{edge_within}
use Rattle.nav_answers.proofs.twins.lone_sink.Goals as goal

pub sink-requires : goal.sink-requires
sink-requires c =
    edge_within c.args.file.now.graph c.args.node c.in_ok-edge.edge c.next.new.self (sym c.edges_from-edges.ensures ∙ c.in_ok-edge.ensures.steps)
