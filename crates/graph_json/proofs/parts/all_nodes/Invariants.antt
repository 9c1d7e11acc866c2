use Rattle.std.proofs.Common.{◌≡◌, map, take, Some, vec_len, ◌≤◌}
use Rattle.serde_json.specs.View.{view}
use Rattle.std.specs.Option.{option_copied}
use Rattle.graph_json.specs.Named.{node_among}
use Rattle.graph_json.proofs.parts.all_nodes.Given as goal

abbrev pub invariant-loop-i : goal.invariant-loop-i
invariant-loop-i l = (take l.i (map (node_among (option_copied l.names)) (map view l.values)) ≡ map Some l.nodes.items) × (vec_len l.nodes ≤ l.i)
