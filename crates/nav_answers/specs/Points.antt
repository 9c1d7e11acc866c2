-- Which node of a file a query means: the one at a position, or the first one at a point of the text.
use Rattle.std.specs.Prelude.{ℕ, List, Bool, false, not, ◌&&◌, ◌||◌, nat_eq, nat_lt, Option, Some, None, if◌then◌else◌}
use Rattle.std.specs.List.{position_from}
use Rattle.std.specs.Option.{option_map_or}
use Rattle.graph_nodes.specs.declared.node.Node.{Node}
use Rattle.graph_nodes.specs.declared.node.NodeKind.{NodeKind}
use Rattle.graph_nodes.specs.declared.node.Span.{Span}
use Rattle.graph_nodes.specs.Graph.{kind_at}
use Rattle.nav_answers.specs.declared.found.At.{At}
use Rattle.nav_answers.specs.declared.found.At.TheVariants as at

-- whether a point, by its line and column, comes before another
abbrev pub is_earlier : ℕ → ℕ → ℕ → ℕ → Bool
is_earlier line column other_line other_column =
    nat_lt line other_line || (nat_eq line other_line && nat_lt column other_column)

-- whether the span has the point: it isn't before the span's start, and isn't past its end
abbrev pub has_point : ℕ → ℕ → Span → Bool
has_point line column span =
    not (is_earlier line column span.from_line span.from_column) && not (is_earlier span.to_line span.to_column line column)

-- whether the node is of the kind and has a span with the point
abbrev pub is_there : (NodeKind → Bool) → ℕ → ℕ → Node → Bool
is_there kind line column node = kind node.kind && option_map_or (has_point line column) node.span false

-- the position of the node that is meant, of those of the kind: the one that is named, where it is of the kind, or the
-- least at which the node's span has the point
abbrev pub node_meant : (NodeKind → Bool) → List Node → At → Option ℕ
node_meant kind nodes (at.Node n) = if kind_at kind nodes n then Some n else None
node_meant kind nodes (at.Point line column) = position_from (is_there kind line column) 0 nodes
