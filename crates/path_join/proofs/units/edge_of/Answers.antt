-- What a checked graph tells of each of its edges.
use Rattle.std.proofs.Common.{◌≡◌, sym, ap, subst, ◌∙◌, ℕ, List, length, slice_get, Some, None, IsTrue, Bool, true, false, ◌&&◌}
use Rattle.std.proofs.lemmas.Option.{slice_get_within, get_or_from_slice_get}
use Rattle.graph_nodes.specs.declared.node.Edge.{Edge}
use Rattle.graph_nodes.specs.declared.node.Node.{Node}
use Rattle.graph_nodes.specs.Graph.{has_place}
use Rattle.graph_nodes.specs.Checked.{is_jump, has_ends, graph_fault}
use Rattle.graph_nodes.proofs.Faults.{graph_fault-none}
use Rattle.path_join.proofs.units.edge_of.Goals as goal

and-right : (a b : Bool) → IsTrue (a && b) → IsTrue b
and-right true b h = h
and-right false b h = cc

source-no_jump : (nodes : List Node) (edges : List Edge) (e : ℕ) (edge : Edge) → graph_fault nodes edges ≡ None → slice_get edges e ≡ Some edge → is_jump edge.source ≡ false
source-no_jump nodes edges e edge h s =
    ap (λ (x : Edge). is_jump x.source) (sym (get_or_from_slice_get edges e edge edge s))
    ∙ (graph_fault-none nodes edges h).sources e edge (slice_get_within edges e edge s)

sink-there : (nodes : List Node) (edges : List Edge) (e : ℕ) (edge : Edge) → graph_fault nodes edges ≡ None → slice_get edges e ≡ Some edge → IsTrue (has_place (length nodes) edge.sink)
sink-there nodes edges e edge h s =
    and-right (has_place (length nodes) edge.source) (has_place (length nodes) edge.sink)
    (subst (λ (x : Edge). IsTrue (has_ends (length nodes) x)) (get_or_from_slice_get edges e edge edge s)
    ((graph_fault-none nodes edges h).ends e edge (slice_get_within edges e edge s)))

pub returns : goal.returns
returns c = record {
  is = c.edge.ensures;
  source = source-no_jump c.args.graph.now.nodes c.args.graph.now.edges c.args.edge c.edge.result c.edge_count.ensures.checked c.edge.ensures;
  sink = sink-there c.args.graph.now.nodes c.args.graph.now.edges c.args.edge c.edge.result c.edge_count.ensures.checked c.edge.ensures;
}
