-- What a `FileGraph` keeps of each node beside its kind and span. No public clause cites this.
use Rattle.std.specs.Prelude.{◌≡◌, ℕ, ◌<◌, List, length, Bool, true, false, ◌||◌, slice_index_or}
use Rattle.graph_nodes.specs.declared.node.Node.{Node}
use Rattle.graph_nodes.specs.declared.node.Edge.{Edge}
use Rattle.graph_nodes.specs.declared.node.NodeKind.{NodeKind}
use Rattle.graph_nodes.specs.declared.marks.Mark.{Mark}
use Rattle.graph_nodes.specs.declared.marks.Mark.TheVariants.{Plain, Exported, Reference, TurningReference, Definition, TurningDefinition}
use Rattle.graph_nodes.specs.Graph.{is_exported_kind, is_reference_kind, is_definition_kind, is_exported, is_reference, is_definition}
use Rattle.graph_nodes.specs.Cut.{is_turning}

-- whether the mark says that paths are cut at the node
abbrev pub is_cut_mark : Mark → Bool
is_cut_mark Plain = false
is_cut_mark Reference = false
is_cut_mark Definition = false
is_cut_mark _ = true

-- whether it says that the node is an exported scope, a reference, a definition
abbrev pub is_exported_mark : Mark → Bool
is_exported_mark Exported = true
is_exported_mark _ = false

abbrev pub is_reference_mark : Mark → Bool
is_reference_mark Reference = true
is_reference_mark TurningReference = true
is_reference_mark _ = false

abbrev pub is_definition_mark : Mark → Bool
is_definition_mark Definition = true
is_definition_mark TurningDefinition = true
is_definition_mark _ = false

-- the mark says this of the node: whether paths are cut there, and what it is
pub record Marks (mark : Mark) (cut exported reference definition : Bool) : Type 0 where
  pub tells_cut : is_cut_mark mark ≡ cut
  pub tells_exported : is_exported_mark mark ≡ exported
  pub tells_reference : is_reference_mark mark ≡ reference
  pub tells_definition : is_definition_mark mark ≡ definition

-- the mark of a node of the kind, which is a turning node or not
abbrev pub IsMarkOf : NodeKind → Bool → Mark → Type 0
IsMarkOf kind turning mark = Marks mark (is_exported_kind kind || turning)
    (is_exported_kind kind) (is_reference_kind kind) (is_definition_kind kind)

-- the mark of the node at the position
abbrev pub IsMarkAt : List Node → List Edge → ℕ → Mark → Type 0
IsMarkAt nodes edges n mark = Marks mark (is_exported nodes n || is_turning edges n)
    (is_exported nodes n) (is_reference nodes n) (is_definition nodes n)

-- each node has its mark
pub record AreMarked (nodes : List Node) (edges : List Edge) (marks : List Mark) : Type 0 where
  pub one_each : length marks ≡ length nodes
  pub right : (n : ℕ) (d : Mark) → n < length nodes
      → IsMarkAt nodes edges n (slice_index_or marks n d)
