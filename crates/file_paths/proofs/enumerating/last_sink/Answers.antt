-- The last of the edges is there, and so is its sink.
use Rattle.partial_path.proofs.Edges.{has_sink}
use Rattle.file_paths.proofs.LastLaws.{last_is_there, last_leads}
use Rattle.file_paths.proofs.enumerating.last_sink.Goals as goal

pub edge-requires : goal.edge-requires
edge-requires c = last_is_there c.args.graph.now c.args.edges.now _ c.requires

pub returns-clause-leads : goal.returns-clause-leads
returns-clause-leads c = last_leads c.args.graph.now c.args.edges.now _ c.edge.result c.requires c.edge.ensures

pub returns-clause-place : goal.returns-clause-place
returns-clause-place c = has_sink c.args.graph.now _ c.edge.result c.edge_count.ensures.checked c.edge.ensures
