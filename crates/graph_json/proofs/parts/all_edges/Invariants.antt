use Rattle.std.proofs.Common.{◌≡◌, map, take, Some, vec_len, ◌≤◌}
use Rattle.serde_json.specs.View.{view}
use Rattle.std.specs.Option.{option_copied}
use Rattle.graph_json.specs.Named.{edge_among}
use Rattle.graph_json.proofs.parts.all_edges.Given as goal

abbrev pub invariant-loop-i : goal.invariant-loop-i
invariant-loop-i l = (take l.i (map (edge_among (option_copied l.names)) (map view l.values)) ≡ map Some l.edges.items) × (vec_len l.edges ≤ l.i)
