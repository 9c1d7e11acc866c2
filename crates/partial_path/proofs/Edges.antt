-- What is known of an edge of a checked graph.
use Rattle.std.proofs.Common.{◌≡◌, ℕ, Bool, true, false, List, length, Some, slice_get, refl, ◌&&◌, IsTrue, get_or}
use Rattle.std.proofs.lemmas.Option.{slice_get_within, get_or_from_slice_get}
use Rattle.graph_nodes.specs.declared.node.Edge.{Edge}
use Rattle.graph_nodes.specs.Graph.{Graph, has_place}
use Rattle.graph_nodes.specs.Checked.{IsChecked, has_ends}
use Rattle.graph_nodes.specs.Cut.{is_cut}
use Rattle.graph_nodes.proofs.Faults.{graph_fault-none}
use Rattle.partial_path.specs.declared.config.EdgeAt.{EdgeAt}
use Rattle.partial_path.specs.Step.{is_cut_edge}

and_right : (a b : Bool) → IsTrue (a && b) → IsTrue b
and_right true b h = h
and_right false b h = cc

-- the sink of an edge is one of the graph's places
pub has_sink : (g : Graph) (e : ℕ) (edge : Edge) → IsChecked g → slice_get g.edges e ≡ Some edge → IsTrue (has_place (length g.nodes) edge.sink)
has_sink g e edge checked found =
    let ends : IsTrue (has_ends (length g.nodes) (get_or g.edges e edge)) =
    (graph_fault-none g.nodes g.edges checked).ends e edge (slice_get_within g.edges e edge found) in
    and_right (has_place (length g.nodes) edge.source) _ (rw (get_or_from_slice_get g.edges e edge edge found) at ends)

-- whether an edge that is there is a cut edge
pub is_cut_edge-found : (files : List Graph) (e : EdgeAt) (g : Graph) (edge : Edge) → slice_get files e.file ≡ Some g
    → slice_get g.edges e.edge ≡ Some edge → is_cut_edge files e ≡ is_cut g edge.sink
is_cut_edge-found files e g edge in_files in_graph = rw in_files (rw in_graph refl)
