-- The sink of an edge of a checked graph is one of its places.
use Rattle.partial_path.proofs.Edges.{has_sink}
use Rattle.whole_search.proofs.leads.leads_by.Goals as goal

pub leads_on-requires : goal.leads_on-requires
leads_on-requires c =
    has_sink c.args.graph.now c.args.e c.edge.result c.edge_count.ensures.checked c.edge.ensures
