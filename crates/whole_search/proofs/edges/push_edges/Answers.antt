-- No edge leaves a place that isn't there.
use Rattle.std.proofs.Common.{sym, ap, ◌∙◌}
use Rattle.graph_nodes.specs.Graph.{has_place}
use Rattle.whole_search.proofs.Leaving.{out_of_file-absent, with_absent}
use Rattle.whole_search.proofs.edges.push_edges.Goals as goal

pub returns-then-not-has_place : goal.returns-then-not-has_place
returns-then-not-has_place c =
    with_absent _ _ (out_of_file-absent c.args.file c.args.place c.args.graph.now c.node_count-count.ensures.checked
    (ap (λ n. has_place n c.args.place) (sym c.node_count-count.ensures.value) ∙ (sym c.has_place.ensures ∙ c.if-not-has_place.true)))
