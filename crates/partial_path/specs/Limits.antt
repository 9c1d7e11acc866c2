-- The limits of a search and of what a query may ask for.
use Rattle.std.specs.Prelude.{ℕ, ◌≤◌}
use Rattle.partial_path.specs.declared.bounds.Bounds.{Bounds}

-- from how many bounded counted runs on, and one more, a start is crowded
abbrev pub max_runs : ℕ
max_runs = 8192

-- how many edges a query may let a run have, and how many symbols a stack
abbrev pub max_edges : ℕ
max_edges = 512

abbrev pub max_depth : ℕ
max_depth = 96

-- bounds that a query may state: at least 1 edge and 1 symbol, and no more than those
pub record IsInRange (bounds : Bounds) : Type 0 where
  pub some_edges : 1 ≤ bounds.edges
  pub most_edges : bounds.edges ≤ max_edges
  pub some_depth : 1 ≤ bounds.depth
  pub most_depth : bounds.depth ≤ max_depth
