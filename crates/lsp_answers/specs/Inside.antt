-- What the parts of an answer do; no public clause cites this.
use Rattle.std.specs.Prelude.{ℕ, List, Option, None}
use Rattle.std.specs.Option.{option_and_then, option_map_or}
use Rattle.graph_nodes.specs.declared.node.Node.{Node}
use Rattle.graph_nodes.specs.declared.node.Span.{Span}
use Rattle.graph_nodes.specs.Whole.{node_of}
use Rattle.version_tree.specs.declared.row.Row.{Row}
use Rattle.version_tree.specs.Graphs.{GraphRow}
use Rattle.nav_answers.specs.Replies.{graphs_in, number_of}

-- the span of a node of the file with that path
abbrev pub span_in : List GraphRow → List ℕ → ℕ → Option Span
span_in files path node =
    option_map_or
    (λ (file : ℕ). option_and_then (λ (n : Node). n.span) (node_of (graphs_in files) file node))
    (number_of path files) None

-- the row of such a node
abbrev pub row_in : List GraphRow → List ℕ → ℕ → Row
row_in files path node = record { path = path; node = node; span = span_in files path node }
