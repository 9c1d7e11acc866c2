-- What a graph of one file is, and which places and nodes it has.
use Rattle.std.specs.Prelude.{ℕ, List, Bool, true, false, nat_lt, slice_get}
use Rattle.std.specs.Option.{option_map_or}
use Rattle.graph_nodes.specs.declared.node.Node.{Node}
use Rattle.graph_nodes.specs.declared.node.Edge.{Edge}
use Rattle.graph_nodes.specs.declared.node.NodeKind.{NodeKind}
use Rattle.graph_nodes.specs.declared.node.NodeKind.TheVariants.{Scope, Push, PushScoped, Pop, PopScoped}
use Rattle.graph_nodes.specs.declared.node.Place.{Place}
use Rattle.graph_nodes.specs.declared.node.Place.TheVariants.{Root, Jump, At}

-- a graph: its nodes and its edges, each named by its position
pub record Graph : Type 0 where
  pub nodes : List Node
  pub edges : List Edge

-- whether the place is there: root and jump always are, a position where it is a node's
abbrev pub has_place : ℕ → Place → Bool
has_place count Root = true
has_place count Jump = true
has_place count (At n) = nat_lt n count

-- whether a node of this kind is an exported scope
abbrev pub is_exported_kind : NodeKind → Bool
is_exported_kind (Scope exported) = exported
is_exported_kind _ = false

-- whether a node of this kind is a reference
abbrev pub is_reference_kind : NodeKind → Bool
is_reference_kind (Push symbol reference) = reference
is_reference_kind (PushScoped symbol scope reference) = reference
is_reference_kind _ = false

-- whether a node of this kind is a definition
abbrev pub is_definition_kind : NodeKind → Bool
is_definition_kind (Pop symbol definition) = definition
is_definition_kind (PopScoped symbol definition) = definition
is_definition_kind _ = false

-- whether a test of the node's kind holds at a position of the list; false past its end
abbrev pub kind_at : (NodeKind → Bool) → List Node → ℕ → Bool
kind_at test nodes n = option_map_or (λ (node : Node). test node.kind) (slice_get nodes n) false

-- whether the node at the position is an exported scope, a reference, a definition
abbrev pub is_exported : List Node → ℕ → Bool
is_exported nodes n = kind_at is_exported_kind nodes n

abbrev pub is_reference : List Node → ℕ → Bool
is_reference nodes n = kind_at is_reference_kind nodes n

abbrev pub is_definition : List Node → ℕ → Bool
is_definition nodes n = kind_at is_definition_kind nodes n
