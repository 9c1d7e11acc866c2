-- A printed graph's JSON: what it stands for, and that format 1 reads it as the graph.
use Rattle.std.proofs.Common.{◌≡◌, ℕ, ◌+◌, ◌<◌, ◌≤◌, ◌^◌, suc, List, [], ◌∷◌, Bool, true, false, Option, Some, None, Ok, option_map, option_and_then, codes, map, unwrap_or, if◌then◌else◌, refl, sym, ap, ◌∙◌, arith, append-nil}
use Rattle.std.specs.Prelude.{IfSome, IsTrue}
use Rattle.std.specs.List.{AllByRecursion}
use Rattle.std.specs.Str.{IsUtf8}
use Rattle.json.specs.Token.{Token}
use Rattle.json.specs.Lex.{tokens}
use Rattle.json.specs.Json as json
use Rattle.json.specs.Json.{Json}
use Rattle.json.specs.Tree.{json_tokens}
use Rattle.json.specs.Tree as tree
use Rattle.json.proofs.Printed.Trees.{value-json_tokens}
use Rattle.serde_json.specs.Data.{Data, null, string, array, object, Items, no_items, item, no_members, put}
use Rattle.serde_json.specs.Find.{get}
use Rattle.serde_json.specs.Read.{of_json, of_items, read, max_depth}
use Rattle.graph_nodes.specs.declared.node.Node.{Node}
use Rattle.graph_nodes.specs.declared.node.Edge.{Edge}
use Rattle.graph_nodes.specs.declared.node.Span.{Span}
use Rattle.graph_nodes.specs.declared.node.NodeKind.{NodeKind}
use Rattle.graph_nodes.specs.declared.node.Place.{Place}
use Rattle.graph_nodes.specs.declared.node.Place.TheVariants.{Root, Jump, At}
use Rattle.graph_nodes.specs.Graph.{Graph, is_exported_kind, is_reference_kind, is_definition_kind}
use Rattle.graph_nodes.specs.Checked.{graph_fault}
use Rattle.json_values.specs.Numbers.{only_if, u32_of}
use Rattle.json_values.specs.Lists.{data_list}
use Rattle.graph_json.specs.Pieces.{is_forward, optional_span}
use Rattle.graph_json.specs.Edges.{edge_in}
use Rattle.graph_json.specs.Top.{lists_in}
use Rattle.graph_json.specs.Plain.{node_of, edge_of, scope_at, place_of, bad_node, bad_edge, plain_parts}
use Rattle.graph_json.specs.Reading.{graph_from}
use Rattle.graph_json.specs.Printed.{with_flag, with_value, name_text, position_json, place_json, span_json, kind_text, symbol_of, scope_of, node_json, nodes_json, edge_json, edges_json, graph_json}
use Rattle.graph_json.specs.PrintSteps.{SpanFits, NodeFits, PlaceFits, EdgeFits}
use Rattle.graph_json.proofs.Collecting.{collected-somes}
use Rattle.graph_json.proofs.Parsing.{json_of-value}
use Rattle.graph_json.proofs.NodesBack.{number_back, at_most, number_data, span_data, span_json_back, span_back, put_value, StandsFor, node_members, node_stands, node_back}

-- ---- what the JSON stands for

abbrev pub position_data : Bool → ℕ → Data
position_data true n = string (name_text n)
position_data false n = number_data n

-- the scope of a node of this kind, where it attaches one
abbrev pub scope_data : Bool → NodeKind → Data
scope_data named kind = unwrap_or (option_map (position_data named) (scope_of kind)) null

abbrev pub own_data : Bool → ℕ → Option Data
own_data named n = only_if named (string (name_text n))

abbrev pub node_data : Bool → ℕ → Node → Data
node_data named n node = object (node_members (own_data named n) (option_map (λ _. scope_data named node.kind) (scope_of node.kind)) (option_map span_data node.span) node.kind)

position_stands : (named : Bool) (n : ℕ) → n < 2 ^ 32 → of_json (position_json named n) ≡ Some (position_data named n)
position_stands true n h = refl
position_stands false n h = number_back n h

own_stands : (named : Bool) (n : ℕ) → StandsFor (only_if named (json.string (name_text n))) (own_data named n)
own_stands true n = refl
own_stands false n = tt

scope_stands : (named : Bool) (o : Option ℕ) → IfSome o (λ n. n < 2 ^ 32) → StandsFor (option_map (position_json named) o) (option_map (λ _. unwrap_or (option_map (position_data named) o) null) o)
scope_stands named None h = tt
scope_stands named (Some n) h = position_stands named n h

span_stands : (o : Option Span) → IfSome o SpanFits → StandsFor (option_map span_json o) (option_map span_data o)
span_stands None h = tt
span_stands (Some s) h = span_json_back s h

node_is : (named : Bool) (n : ℕ) (node : Node) → NodeFits node → of_json (node_json named n node) ≡ Some (node_data named n node)
node_is named n node h =
    node_stands named n node (own_data named n) (option_map (λ _. scope_data named node.kind) (scope_of node.kind)) (option_map span_data node.span)
    (own_stands named n) (scope_stands named (scope_of node.kind) h.0) (span_stands node.span h.1)

abbrev pub nodes_data : Bool → ℕ → List Node → Items
nodes_data named n [] = no_items
nodes_data named n (node ∷ rest) = item (node_data named n node) (nodes_data named (n + 1) rest)

nodes_are : (named : Bool) (n : ℕ) (xs : List Node) → AllByRecursion NodeFits xs → of_items (nodes_json named n xs) ≡ Some (nodes_data named n xs)
nodes_are named n [] h = refl
nodes_are named n (x ∷ xs) h = rw (node_is named n x h.0, nodes_are named (n + 1) xs h.1) refl

abbrev pub place_data : Bool → Place → Data
place_data named Root = string (if named then codes "@root" else codes "root")
place_data named Jump = string (if named then codes "@jump" else codes "jump")
place_data named (At n) = position_data named n

place_is : (named : Bool) (p : Place) → PlaceFits p → of_json (place_json named p) ≡ Some (place_data named p)
place_is named Root h = refl
place_is named Jump h = refl
place_is named (At n) h = position_stands named n h

abbrev pub edge_data : Bool → Edge → Data
edge_data named e = array (item (place_data named e.source) (item (place_data named e.sink) (item (number_data e.precedence) no_items)))

edge_is : (named : Bool) (e : Edge) → EdgeFits e → of_json (edge_json named e) ≡ Some (edge_data named e)
edge_is named e h = rw (place_is named e.source h.0, place_is named e.sink h.1, number_back e.precedence (omega (arith, h.2))) refl

abbrev pub edges_data : Bool → List Edge → Items
edges_data named [] = no_items
edges_data named (e ∷ es) = item (edge_data named e) (edges_data named es)

edges_are : (named : Bool) (xs : List Edge) → AllByRecursion EdgeFits xs → of_items (edges_json named xs) ≡ Some (edges_data named xs)
edges_are named [] h = refl
edges_are named (x ∷ xs) h = rw (edge_is named x h.0, edges_are named xs h.1) refl

abbrev pub graph_data : Bool → Graph → Data
graph_data named g = object (put (codes "nodes") (array (nodes_data named 0 g.nodes)) (put_value (codes "format") (only_if named (number_data 2)) (put (codes "edges") (array (edges_data named g.edges)) no_members)))

graph_is : (named : Bool) (g : Graph) → AllByRecursion NodeFits g.nodes → AllByRecursion EdgeFits g.edges → of_json (graph_json named g) ≡ Some (graph_data named g)
graph_is false g h k = rw (edges_are false g.edges k, nodes_are false 0 g.nodes h) refl
graph_is true g h k = rw (edges_are true g.edges k, number_back 2 (omega arith), nodes_are true 0 g.nodes h) refl

-- ---- it nests a few levels

flag_depth : (name : List ℕ) (b : Bool) (rest : json.Members) (n : ℕ) → tree.members_depth rest ≤ n → tree.members_depth (with_flag name b rest) ≤ n
flag_depth name true rest n h = omega arith
flag_depth name false rest n h = h

value_depth : (name : List ℕ) (o : Option Json) (rest : json.Members) (n : ℕ) → IfSome o (λ j. tree.depth j ≤ n) → tree.members_depth rest ≤ n → tree.members_depth (with_value name o rest) ≤ n
value_depth name None rest n h k = k
value_depth name (Some j) rest n h k = omega (arith, h)

member_depth : (name : List ℕ) (j : Json) (rest : json.Members) (n : ℕ) → tree.depth j ≤ n → tree.members_depth rest ≤ n → tree.members_depth (json.member name j rest) ≤ n
member_depth name j rest n h k = omega (arith, h, k)

object_depth : (ms : json.Members) (n : ℕ) → tree.members_depth ms ≤ n → tree.depth (json.object ms) ≤ suc n
object_depth ms n h = omega (arith, h)

position_depth : (named : Bool) (n k : ℕ) → tree.depth (position_json named n) ≤ k
position_depth true n k = omega arith
position_depth false n k = omega arith

own_depth : (named : Bool) (n k : ℕ) → IfSome (only_if named (json.string (name_text n))) (λ j. tree.depth j ≤ k)
own_depth true n k = omega arith
own_depth false n k = tt

scope_depth : (named : Bool) (o : Option ℕ) (k : ℕ) → IfSome (option_map (position_json named) o) (λ j. tree.depth j ≤ k)
scope_depth named None k = tt
scope_depth named (Some n) k = position_depth named n k

span_depth : (o : Option Span) → IfSome (option_map span_json o) (λ j. tree.depth j ≤ 1)
span_depth None = tt
span_depth (Some s) = omega arith

symbol_depth : (o : Option (List ℕ)) (k : ℕ) → IfSome (option_map json.string o) (λ j. tree.depth j ≤ k)
symbol_depth None k = tt
symbol_depth (Some s) k = omega arith

node_depth : (named : Bool) (n : ℕ) (node : Node) → tree.depth (node_json named n node) ≤ 2
node_depth named n node =
    let symbols = with_value (codes "symbol") (option_map json.string (symbol_of node.kind)) json.no_members in
    let spans = with_value (codes "span") (option_map span_json node.span) symbols in
    let scopes = with_value (codes "scope") (option_map (position_json named) (scope_of node.kind)) spans in
    let references = with_flag (codes "reference") (is_reference_kind node.kind) scopes in
    let names = with_value (codes "name") (only_if named (json.string (name_text n))) references in
    let kinds = json.member (codes "kind") (json.string (kind_text node.kind)) names in
    let exports = with_flag (codes "exported") (is_exported_kind node.kind) kinds in
    let a : tree.members_depth symbols ≤ 1 = value_depth (codes "symbol") (option_map json.string (symbol_of node.kind)) json.no_members 1 (symbol_depth (symbol_of node.kind) 1) (omega arith) in
    let b : tree.members_depth spans ≤ 1 = value_depth (codes "span") (option_map span_json node.span) symbols 1 (span_depth node.span) a in
    let c : tree.members_depth scopes ≤ 1 = value_depth (codes "scope") (option_map (position_json named) (scope_of node.kind)) spans 1 (scope_depth named (scope_of node.kind) 1) b in
    let d : tree.members_depth references ≤ 1 = flag_depth (codes "reference") (is_reference_kind node.kind) scopes 1 c in
    let e : tree.members_depth names ≤ 1 = value_depth (codes "name") (only_if named (json.string (name_text n))) references 1 (own_depth named n 1) d in
    let f : tree.members_depth kinds ≤ 1 = member_depth (codes "kind") (json.string (kind_text node.kind)) names 1 (omega arith) e in
    let g : tree.members_depth exports ≤ 1 = flag_depth (codes "exported") (is_exported_kind node.kind) kinds 1 f in
    object_depth (with_flag (codes "definition") (is_definition_kind node.kind) exports) 1 (flag_depth (codes "definition") (is_definition_kind node.kind) exports 1 g)

nodes_depth : (named : Bool) (n : ℕ) (xs : List Node) → tree.items_depth (nodes_json named n xs) ≤ 2
nodes_depth named n [] = omega arith
nodes_depth named n (x ∷ xs) = omega (arith, node_depth named n x, nodes_depth named (n + 1) xs)

place_depth : (named : Bool) (p : Place) → tree.depth (place_json named p) ≤ 0
place_depth named Root = omega arith
place_depth named Jump = omega arith
place_depth named (At n) = position_depth named n 0

edges_depth : (named : Bool) (xs : List Edge) → tree.items_depth (edges_json named xs) ≤ 1
edges_depth named [] = omega arith
edges_depth named (e ∷ es) = omega (arith, place_depth named e.source, place_depth named e.sink, edges_depth named es)

graph_depth : (named : Bool) (g : Graph) → tree.depth (graph_json named g) ≤ max_depth
graph_depth false g = omega (arith, nodes_depth false 0 g.nodes, edges_depth false g.edges)
graph_depth true g = omega (arith, nodes_depth true 0 g.nodes, edges_depth true g.edges)

abbrev whole : Option (Json × List Token) → Option Data
whole o = option_and_then of_json (option_and_then (λ p. json.if_last p.0 p.1) o)

-- the text is read as that value
pub text_is : (named : Bool) (g : Graph) (text : List ℕ) → tokens text ≡ json_tokens (graph_json named g) → AllByRecursion NodeFits g.nodes → AllByRecursion EdgeFits g.edges → read text ≡ Some (graph_data named g)
text_is named g text e h k =
    ap (λ ts. whole (json.value max_depth ts)) (e ∙ sym (append-nil _)) ∙ ap whole (value-json_tokens (graph_json named g) max_depth [] (graph_depth named g)) ∙ graph_is named g h k

-- ---- format 1

abbrev pub Forward : Node → Type 0
Forward node = IfSome node.span (λ s. IsTrue (is_forward s))

pub spans_back : (o : Option Span) → IfSome o SpanFits → IfSome o (λ s. IsTrue (is_forward s)) → optional_span (option_map span_data o) ≡ Some o
spans_back None h k = refl
spans_back (Some s) h k = ap (option_map Some) (span_back s h k)

scope_back : (o : Option ℕ) (found : Option Data) → found ≡ option_map (λ _. unwrap_or (option_map (position_data false) o) null) o → IfSome o (λ n. n < 2 ^ 32) → IfSome o (λ n. option_and_then u32_of found ≡ Some n)
scope_back None found e h = tt
scope_back (Some n) found e h = ap (option_and_then u32_of) e ∙ at_most n 4294967295 h

node_of_data : (n : ℕ) (node : Node) → NodeFits node → Forward node → node_of (node_data false n node) ≡ Some node
node_of_data n node h k =
    let back = node_back None (scope_data false node.kind) (option_map span_data node.span) node.span (spans_back node.span h.1 k) node.kind in
    back.2 (scope_at (node_data false n node)) (scope_back (scope_of node.kind) (get (codes "scope") (node_data false n node)) back.1 h.0)

nodes_of_data : (n : ℕ) (xs : List Node) → AllByRecursion NodeFits xs → AllByRecursion Forward xs → map node_of (data_list (nodes_data false n xs)) ≡ map Some xs
nodes_of_data n [] h k = refl
nodes_of_data n (x ∷ xs) h k = rw (node_of_data n x h.0 k.0, nodes_of_data (n + 1) xs h.1 k.1) refl

place_of_data : (p : Place) → PlaceFits p → place_of (place_data false p) ≡ Some p
place_of_data Root h = refl
place_of_data Jump h = refl
place_of_data (At n) h = ap (option_map At) (at_most n 4294967295 h)

edge_of_data : (e : Edge) → EdgeFits e → edge_of (edge_data false e) ≡ Some e
unfolding edge_in
edge_of_data e h = rw (place_of_data e.source h.0, place_of_data e.sink h.1, at_most e.precedence 65535 h.2) refl

edges_of_data : (xs : List Edge) → AllByRecursion EdgeFits xs → map edge_of (data_list (edges_data false xs)) ≡ map Some xs
edges_of_data [] h = refl
edges_of_data (x ∷ xs) h = rw (edge_of_data x h.0, edges_of_data xs h.1) refl

plain_back : (g : Graph) → AllByRecursion NodeFits g.nodes → AllByRecursion EdgeFits g.edges → AllByRecursion Forward g.nodes → plain_parts (graph_data false g) ≡ Ok (g.nodes, g.edges)
unfolding plain_parts lists_in
plain_back g h k f = rw (nodes_of_data 0 g.nodes h f, edges_of_data g.edges k, collected-somes bad_node g.nodes, collected-somes bad_edge g.edges) refl

-- a printed graph is read as that graph
pub graph_back : (g : Graph) (text : List ℕ) → tokens text ≡ json_tokens (graph_json false g) → IsUtf8 text → AllByRecursion NodeFits g.nodes → AllByRecursion EdgeFits g.edges → AllByRecursion Forward g.nodes → graph_fault g.nodes g.edges ≡ None
    → graph_from text ≡ Ok (g.nodes, g.edges)
unfolding graph_from
graph_back g text e u h k f right = rw (json_of-value text (graph_data false g) u (text_is false g text e h k), plain_back g h k f, right) refl

pub ruleset laws = (graph_back)
