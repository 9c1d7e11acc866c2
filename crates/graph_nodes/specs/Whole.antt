-- The whole graph of a list of files: the union of their graphs, with one root and one jump.
-- A node is named by its file's place in the list and its position, and so is an edge.
use Rattle.std.specs.Prelude.{ℕ, List, Bool, false, Option, slice_get}
use Rattle.std.specs.Option.{option_and_then, option_map_or}
use Rattle.graph_nodes.specs.declared.node.Node.{Node}
use Rattle.graph_nodes.specs.declared.node.Edge.{Edge}
use Rattle.graph_nodes.specs.declared.node.Place.{Place}
use Rattle.graph_nodes.specs.Graph.{Graph, is_reference, is_definition}
use Rattle.graph_nodes.specs.Cut.{is_cut}

-- the node of that file at that position
abbrev pub node_of : List Graph → ℕ → ℕ → Option Node
node_of files file n = option_and_then (λ (g : Graph). slice_get g.nodes n) (slice_get files file)

-- the edge of that file at that position
abbrev pub edge_of : List Graph → ℕ → ℕ → Option Edge
edge_of files file e = option_and_then (λ (g : Graph). slice_get g.edges e) (slice_get files file)

-- whether a path is cut at that place of the file
abbrev pub is_cut_of : List Graph → ℕ → Place → Bool
is_cut_of files file place =
    option_map_or (λ (g : Graph). is_cut g place) (slice_get files file) false

-- whether the file has a reference, a definition at the position
abbrev pub is_reference_of : List Graph → ℕ → ℕ → Bool
is_reference_of files file n =
    option_map_or (λ (g : Graph). is_reference g.nodes n) (slice_get files file) false

abbrev pub is_definition_of : List Graph → ℕ → ℕ → Bool
is_definition_of files file n =
    option_map_or (λ (g : Graph). is_definition g.nodes n) (slice_get files file) false
