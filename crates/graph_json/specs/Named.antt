-- Format 2: nodes have names, and scopes and edges' ends are names.
use Rattle.std.specs.Prelude.{ℕ, ◌&&◌, ◌||◌, ◌==◌, List, [], ◌∷◌, length, Bool, true, false, not, nat_lt, if◌then◌else◌, Option, Some, None, option_map, option_and_then, unwrap_or, position, is_none, map, codes, Result, ok_or}
use Rattle.std.specs.List.{enumerate_from}
use Rattle.std.specs.Option.{option_map_or, option_or}
use Rattle.std.specs.Str.{bytes_eq}
use Rattle.serde_json.specs.Data.{Data}
use Rattle.serde_json.specs.Find.{get, at, as_str}
use Rattle.graph_nodes.specs.declared.node.Node.{Node}
use Rattle.graph_nodes.specs.declared.node.Edge.{Edge}
use Rattle.graph_nodes.specs.declared.node.Place.{Place}
use Rattle.graph_nodes.specs.declared.node.Place.TheVariants.{At}
use Rattle.graph_json.specs.declared.fault.GraphTextFault.{GraphTextFault}
use Rattle.graph_json.specs.declared.fault.GraphTextFault.TheVariants.{BadShape, SameName, UnknownName}
use Rattle.graph_json.specs.declared.fault.Part.TheVariants as Part
use Rattle.json_values.specs.Numbers.{only_if, u32_of}
use Rattle.graph_json.specs.Collect.{◌>>=◌, collected, unless}
use Rattle.graph_json.specs.Nodes.{node_in}
use Rattle.graph_json.specs.Edges.{edge_in}
use Rattle.graph_json.specs.Top.{lists_in}
use Rattle.graph_json.specs.Plain.{shared_place, node_of, edge_of, bad_node, bad_edge}

-- ---- names

-- whether a text may be a name: 1 to 256 bytes that don't begin with `@`
abbrev pub is_name : List ℕ → Bool
is_name [] = false
is_name (x ∷ xs) = not (x == 64) && nat_lt (length xs) 256

-- a name
abbrev pub name_of : Data → Option (List ℕ)
name_of d = option_and_then (λ text. only_if (is_name text) text) (as_str d)

-- the name that a member is
abbrev pub name_in : List ℕ → Data → Option (List ℕ)
name_in member d = option_and_then name_of (get member d)

-- the name at that place of an array
abbrev pub name_at : ℕ → Data → Option (List ℕ)
name_at i d = option_and_then name_of (at i d)

-- the names of the nodes, in order
abbrev pub names_of : List Data → List (Option (List ℕ))
names_of nodes = map (name_in (codes "name")) nodes

-- whether a node's name is this one
abbrev pub is_called : List ℕ → Option (List ℕ) → Bool
is_called name own = option_map_or (bytes_eq name) own false

-- the first node of that name
abbrev pub first_called : List (Option (List ℕ)) → List ℕ → Option ℕ
first_called names name = position (is_called name) names

-- the position that a name stands for; one that no node has stands for 0, until it is told as a fault
abbrev pub number_of : List (Option (List ℕ)) → List ℕ → ℕ
number_of names name = unwrap_or (first_called names name) 0

-- ---- nodes and edges

-- a node, among nodes of these names
abbrev pub named_node : List (Option (List ℕ)) → Data → Option Node
named_node names d =
    option_and_then
    (λ own. node_in true (option_map (number_of names) (name_in (codes "scope") d)) d)
    (name_in (codes "name") d)

-- the place of that text: a name, or what files share
abbrev pub place_called : List (Option (List ℕ)) → List ℕ → Option Place
place_called names text =
    option_or (shared_place (codes "@root") (codes "@jump") text)
    (only_if (is_name text) (At (number_of names text)))

-- the end at that place of an edge's array
abbrev pub named_place_at : List (Option (List ℕ)) → ℕ → Data → Option Place
named_place_at names i d =
    option_and_then (λ end. option_and_then (place_called names) (as_str end)) (at i d)

-- an edge, among nodes of these names
abbrev pub named_edge : List (Option (List ℕ)) → Data → Option Edge
named_edge names d = edge_in (named_place_at names 0 d) (named_place_at names 1 d) d

-- a node and an edge of format 2, among nodes of these names, and of format 1 where there are none
abbrev pub node_among : Option (List (Option (List ℕ))) → (Data → Option Node)
node_among (Some names) = named_node names
node_among None = node_of

abbrev pub edge_among : Option (List (Option (List ℕ))) → (Data → Option Edge)
edge_among (Some names) = named_edge names
edge_among None = edge_of

-- ---- faults of names

-- whether an earlier node than the one at that position has its name
abbrev pub is_repeat : List (Option (List ℕ)) → ℕ → Option (List ℕ) → Bool
is_repeat names n own = option_map_or (λ name. nat_lt (number_of names name) n) own false

-- the first node whose name an earlier node has
abbrev pub first_repeat : List (Option (List ℕ)) → Option ℕ
first_repeat names = position (λ p. is_repeat names p.0 p.1) (enumerate_from 0 names)

-- whether there is a name, and no node has it
abbrev pub is_unknown : List (Option (List ℕ)) → Option (List ℕ) → Bool
is_unknown names o = option_map_or (λ name. is_none (first_called names name)) o false

-- whether a node's scope is unknown
abbrev pub has_unknown_scope : List (Option (List ℕ)) → Data → Bool
has_unknown_scope names d = is_unknown names (name_in (codes "scope") d)

-- whether an end of an edge is unknown
abbrev pub has_unknown_end : List (Option (List ℕ)) → Data → Bool
has_unknown_end names d = is_unknown names (name_at 0 d) || is_unknown names (name_at 1 d)

-- the fault of a node, of an edge that names a node that isn't there
abbrev pub unknown_in_node : ℕ → GraphTextFault
unknown_in_node n = UnknownName (Part.Node n)

abbrev pub unknown_in_edge : ℕ → GraphTextFault
unknown_in_edge e = UnknownName (Part.Edge e)

-- the first fault of the names
abbrev pub name_fault : List (Option (List ℕ)) → List Data → List Data → Option GraphTextFault
name_fault names nodes edges =
    option_or (option_map SameName (first_repeat names))
    (option_or (option_map unknown_in_node (position (has_unknown_scope names) nodes))
    (option_map unknown_in_edge (position (has_unknown_end names) edges)))

-- ---- the whole

-- whether the member `format` is the number 2
abbrev pub has_format_2 : Data → Bool
has_format_2 d = option_map_or (λ n. n == 2) (option_and_then u32_of (get (codes "format") d)) false

-- the values of the nodes and of the edges
abbrev pub named_lists : Data → Option (List Data × List Data)
named_lists d = if has_format_2 d then lists_in true d else None

-- the nodes and edges of a value in format 2, not yet checked to be a graph, or the first fault of shape or names
unfoldable pub named_parts : Data → Result (List Node × List Edge) GraphTextFault
named_parts d = do
  lists ← ok_or (named_lists d) (BadShape Part.Top)
  nodes ← collected bad_node (map (named_node (names_of lists.0)) lists.0)
  edges ← collected bad_edge (map (named_edge (names_of lists.0)) lists.1)
  unless (name_fault (names_of lists.0) lists.0 lists.1) (nodes, edges)
