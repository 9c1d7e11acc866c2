use Rattle.std.proofs.Common.{◌≡◌, ◌++◌, map}
use Rattle.whole_search.specs.Walk.{edge_at, out_of_file}
use Rattle.whole_search.proofs.edges.push_edges.Given as goal

abbrev pub invariant-loop-edge : goal.invariant-loop-edge
invariant-loop-edge l =
    l.edges.items ++ map (edge_at l.file) l.edge-iterator ≡ l.initial.edges.items ++ out_of_file l.file l.fn.place l.graph
