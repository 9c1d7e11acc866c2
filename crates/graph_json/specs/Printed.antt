-- The text of a graph in either format: compact JSON, with members in the order of their names' bytes.
use Rattle.std.specs.Prelude.{ℕ, ◌+◌, List, [], ◌∷◌, ◌++◌, Bool, true, false, if◌then◌else◌, Option, Some, None, option_map, codes, decimal, IfSome, IsTrue}
use Rattle.json.specs.Json.{Json, string, number, boolean, array, object, Items, no_items, item, Members, no_members, member}
use Rattle.json.specs.Tree.{json_tokens}
use Rattle.json.specs.Print.{print}
use Rattle.graph_nodes.specs.declared.node.Node.{Node}
use Rattle.graph_nodes.specs.declared.node.Edge.{Edge}
use Rattle.graph_nodes.specs.declared.node.Span.{Span}
use Rattle.graph_nodes.specs.declared.node.NodeKind.{NodeKind}
use Rattle.graph_nodes.specs.declared.node.NodeKind.TheVariants.{Scope, Push, PushScoped, Pop, PopScoped, Drops}
use Rattle.graph_nodes.specs.declared.node.Place.{Place}
use Rattle.graph_nodes.specs.declared.node.Place.TheVariants.{Root, Jump, At}
use Rattle.graph_nodes.specs.Graph.{Graph, is_exported_kind, is_reference_kind, is_definition_kind}
use Rattle.std.specs.List.{AllByRecursion}
use Rattle.json_values.specs.Numbers.{only_if}
use Rattle.graph_json.specs.Pieces.{is_forward}

-- ---- members that stand only where they are told

-- a truth value, only where it is true
abbrev pub with_flag : List ℕ → Bool → Members → Members
with_flag name true rest = member name (boolean true) rest
with_flag name false rest = rest

-- a value, only where there is one
abbrev pub with_value : List ℕ → Option Json → Members → Members
with_value name (Some j) rest = member name j rest
with_value name None rest = rest

-- ---- the pieces

-- a number, in decimal digits
abbrev pub number_json : ℕ → Json
number_json n = number (decimal n)

-- the name that a node gets by its position: `n0`, `n1`, ..
abbrev pub name_text : ℕ → List ℕ
name_text n = codes "n" ++ decimal n

-- a node as others name it: in format 2 its name, in format 1 its position
abbrev pub position_json : Bool → ℕ → Json
position_json true n = string (name_text n)
position_json false n = number_json n

-- an edge's end: the word for the root or for jump, or a node as others name it
abbrev pub place_json : Bool → Place → Json
place_json named Root = string (if named then codes "@root" else codes "root")
place_json named Jump = string (if named then codes "@jump" else codes "jump")
place_json named (At n) = position_json named n

-- a span: the line and column of its start, then those of its end
abbrev pub span_json : Span → Json
span_json s =
    array (item (number_json s.from_line) (item (number_json s.from_column)
    (item (number_json s.to_line) (item (number_json s.to_column) no_items))))

-- the word for a node's kind
abbrev pub kind_text : NodeKind → List ℕ
kind_text (Scope exported) = codes "scope"
kind_text (Push symbol reference) = codes "push"
kind_text (PushScoped symbol scope reference) = codes "push_scoped"
kind_text (Pop symbol definition) = codes "pop"
kind_text (PopScoped symbol definition) = codes "pop_scoped"
kind_text Drops = codes "drop"

-- the symbol of a node that has one
abbrev pub symbol_of : NodeKind → Option (List ℕ)
symbol_of (Scope exported) = None
symbol_of (Push symbol reference) = Some symbol
symbol_of (PushScoped symbol scope reference) = Some symbol
symbol_of (Pop symbol definition) = Some symbol
symbol_of (PopScoped symbol definition) = Some symbol
symbol_of Drops = None

-- the scope that a node attaches, where it attaches one
abbrev pub scope_of : NodeKind → Option ℕ
scope_of (Scope exported) = None
scope_of (Push symbol reference) = None
scope_of (PushScoped symbol scope reference) = Some scope
scope_of (Pop symbol definition) = None
scope_of (PopScoped symbol definition) = None
scope_of Drops = None

-- ---- nodes, edges and the whole

-- the node at position n
abbrev pub node_json : Bool → ℕ → Node → Json
node_json named n node =
    object (with_flag (codes "definition") (is_definition_kind node.kind)
    (with_flag (codes "exported") (is_exported_kind node.kind)
    (member (codes "kind") (string (kind_text node.kind))
    (with_value (codes "name") (only_if named (string (name_text n)))
    (with_flag (codes "reference") (is_reference_kind node.kind)
    (with_value (codes "scope") (option_map (position_json named) (scope_of node.kind))
    (with_value (codes "span") (option_map span_json node.span)
    (with_value (codes "symbol") (option_map string (symbol_of node.kind)) no_members))))))))

-- the nodes, the first of them at position n
abbrev pub nodes_json : Bool → ℕ → List Node → Items
nodes_json named n [] = no_items
nodes_json named n (node ∷ rest) = item (node_json named n node) (nodes_json named (n + 1) rest)

-- an edge: its source, its sink and its precedence
abbrev pub edge_json : Bool → Edge → Json
edge_json named e =
    array (item (place_json named e.source) (item (place_json named e.sink)
    (item (number_json e.precedence) no_items)))

-- the edges, in their order
abbrev pub edges_json : Bool → List Edge → Items
edges_json named [] = no_items
edges_json named (e ∷ es) = item (edge_json named e) (edges_json named es)

-- the graph, in format 2 where it is named
abbrev pub graph_json : Bool → Graph → Json
graph_json named g =
    object (member (codes "edges") (array (edges_json named g.edges))
    (with_value (codes "format") (only_if named (number_json 2))
    (member (codes "nodes") (array (nodes_json named 0 g.nodes)) no_members)))

-- the text, in format 2 where it is named
abbrev pub text_of : Bool → Graph → List ℕ
text_of named g = print (json_tokens (graph_json named g))

-- the text in format 1
abbrev pub graph_text : Graph → List ℕ
graph_text g = text_of false g

-- the text in format 2, with the names `n0`, `n1`, ..
abbrev pub named_text : Graph → List ℕ
named_text g = text_of true g

-- no span ends before its start
abbrev pub HasForwardSpans : List Node → Type 0
HasForwardSpans nodes =
    AllByRecursion (λ (node : Node). IfSome node.span (λ s. IsTrue (is_forward s))) nodes
