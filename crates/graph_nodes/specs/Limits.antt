-- How large the graph of one file may be.
use Rattle.std.specs.Prelude.{ℕ}

-- the most nodes
abbrev pub max_nodes : ℕ
max_nodes = 16384

-- the most edges
abbrev pub max_edges : ℕ
max_edges = 65536
