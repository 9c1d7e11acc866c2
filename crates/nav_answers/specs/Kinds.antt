-- What a query asks about; no public clause cites this.
use Rattle.std.specs.Prelude.{ℕ, List, Bool, ◌&&◌}
use Rattle.graph_nodes.specs.declared.node.Node.{Node}
use Rattle.graph_nodes.specs.declared.node.NodeKind.{NodeKind}
use Rattle.graph_nodes.specs.declared.spans.NodeSpan.{NodeSpan}
use Rattle.graph_nodes.specs.Graph.{is_reference_kind, is_definition_kind, kind_at}
use Rattle.nav_answers.specs.declared.meaning.Asked.{Asked}
use Rattle.nav_answers.specs.declared.meaning.Asked.TheVariants as asked
use Rattle.nav_answers.specs.declared.found.AskFault.{AskFault}
use Rattle.nav_answers.specs.declared.found.AskFault.TheVariants.{NoReference, NoDefinition}
use Rattle.nav_answers.specs.Points.{has_point}

-- whether a node of the kind is asked about
abbrev pub is_of : Asked → NodeKind → Bool
is_of asked.Reference = is_reference_kind
is_of asked.Definition = is_definition_kind

-- the refusal where there is no such node
abbrev pub missing : Asked → AskFault
missing asked.Reference = NoReference
missing asked.Definition = NoDefinition

-- whether the span has the point and its node is of the kind
abbrev pub is_meant : (NodeKind → Bool) → List Node → ℕ → ℕ → NodeSpan → Bool
is_meant kind nodes line column found = has_point line column found.span && kind_at kind nodes found.node
