use Rattle.std.proofs.Common.{◌≡◌, ◌++◌, map, take}
use Rattle.partial_path.specs.FileNumbers.{edge_number}
use Rattle.partial_path.proofs.pools.put_edges.Given as goal

-- the numbers so far stand behind what was there
abbrev pub invariant-loop-edge : goal.invariant-loop-edge
invariant-loop-edge l = l.pool.items ≡ l.initial.pool.items ++ map edge_number (take l.edge-index l.edges)
