-- A complete run as it is told: its edges, and where it ends.
use Rattle.std.specs.Prelude.{ℕ, List}
use Rattle.stacks_vars.specs.declared.scopes.NodeAt.{NodeAt}
use Rattle.partial_path.specs.declared.config.EdgeAt.{EdgeAt}
use Rattle.partial_path.specs.Rules.{Rule}
use Rattle.partial_path.specs.Cutting.{path_edges}

-- its edges, the first first, and the definition at which it ends
pub record EdgePath : Type 0 where
  pub edges : List EdgeAt
  pub end : NodeAt

-- that of joined paths
abbrev pub edge_path : List (ℕ × Rule) → NodeAt → EdgePath
edge_path paths end = record { edges = path_edges paths; end = end }
