-- Format 2 reads a printed graph as the graph.
use Rattle.std.proofs.Common.{◌≡◌, ℕ, ◌+◌, ◌<◌, ◌^◌, List, [], ◌∷◌, length, true, false, Option, Some, None, Ok, option_map, option_and_then, is_none, codes, map, unwrap_or, refl, ap, ◌∙◌, arith}
use Rattle.std.specs.Prelude.{IfSome}
use Rattle.std.specs.List.{AllByRecursion}
use Rattle.std.specs.Str.{IsUtf8}
use Rattle.json.specs.Lex.{tokens}
use Rattle.json.specs.Tree.{json_tokens}
use Rattle.serde_json.specs.Data.{Data, null, string}
use Rattle.serde_json.specs.Find.{get, as_str}
use Rattle.graph_nodes.specs.declared.node.Node.{Node}
use Rattle.graph_nodes.specs.declared.node.Edge.{Edge}
use Rattle.graph_nodes.specs.declared.node.Place.{Place}
use Rattle.graph_nodes.specs.declared.node.Place.TheVariants.{Root, Jump, At}
use Rattle.graph_nodes.specs.Graph.{Graph}
use Rattle.graph_nodes.specs.Checked.{graph_fault}
use Rattle.json_values.specs.Numbers.{only_if}
use Rattle.json_values.specs.Lists.{data_list}
use Rattle.graph_json.specs.Edges.{edge_in}
use Rattle.graph_json.specs.Top.{lists_in}
use Rattle.graph_json.specs.Plain.{bad_node, bad_edge}
use Rattle.graph_json.specs.Named.{name_of, name_in, names_of, first_called, number_of, named_node, place_called, named_edge, is_unknown, has_unknown_scope, has_unknown_end, named_parts}
use Rattle.graph_json.specs.Reading.{graph_from}
use Rattle.graph_json.specs.Printed.{name_text, scope_of, graph_json}
use Rattle.graph_json.specs.PrintSteps.{NodeFits, EdgeFits}
use Rattle.graph_json.proofs.Collecting.{collected-somes}
use Rattle.graph_json.proofs.Parsing.{json_of-value}
use Rattle.graph_json.proofs.NodesBack.{at_most, span_data, node_back}
use Rattle.graph_json.proofs.GraphBack.{position_data, scope_data, node_data, nodes_data, place_data, edge_data, edges_data, graph_data, text_is, Forward, spans_back}
use Rattle.graph_json.proofs.Naming.{is_name-name_text, numbered, first_called-numbered, first_repeat-numbered, none_passes}
use Rattle.graph_json.proofs.Right.{PlaceIn, EndsIn, ScopeIn, few_nodes, ends_in, scopes_in}

-- a name's text is read as the name
name_read : (n : ℕ) → n < 2 ^ 32 → name_of (string (name_text n)) ≡ Some (name_text n)
name_read n h = ap (λ b. only_if b (name_text n)) (is_name-name_text n h)

own_read : (n : ℕ) (node : Node) → n < 2 ^ 32 → NodeFits node → Forward node → name_in (codes "name") (node_data true n node) ≡ Some (name_text n)
own_read n node few h k =
    let back = node_back (Some (string (name_text n))) (scope_data true node.kind) (option_map span_data node.span) node.span (spans_back node.span h.1 k) node.kind in
    ap (option_and_then name_of) back.0 ∙ name_read n few

names_read : (n : ℕ) (xs : List Node) → n + length xs < 2 ^ 32 → AllByRecursion NodeFits xs → AllByRecursion Forward xs → names_of (data_list (nodes_data true n xs)) ≡ numbered n xs
names_read n [] few h k = refl
names_read n (x ∷ xs) few h k = rw (own_read n x (omega (arith, few)) h.0 k.0, names_read (n + 1) xs (omega (arith, few)) h.1 k.1) refl

module _ (names : List (Option (List ℕ))) (count : ℕ) (few : count < 2 ^ 32) (known : (k : ℕ) → k < count → first_called names (name_text k) ≡ Some k) where
  numbers : (k : ℕ) → k < count → number_of names (name_text k) ≡ k
  numbers k h = ap (λ o. unwrap_or o 0) (known k h)

  scope_name : (o : Option ℕ) (found : Option Data) → found ≡ option_map (λ _. unwrap_or (option_map (position_data true) o) null) o → IfSome o (λ n. n < count) → option_and_then name_of found ≡ option_map name_text o
  scope_name None found e h = ap (option_and_then name_of) e
  scope_name (Some n) found e h = ap (option_and_then name_of) e ∙ name_read n (omega (arith, h, few))

  scope_number : (o : Option ℕ) (found : Option (List ℕ)) → found ≡ option_map name_text o → IfSome o (λ n. n < count) → IfSome o (λ n. option_map (number_of names) found ≡ Some n)
  scope_number None found e h = tt
  scope_number (Some n) found e h = ap (option_map (number_of names)) e ∙ ap (λ k. Some k) (numbers n h)

  known_scope : (o : Option ℕ) (found : Option (List ℕ)) → found ≡ option_map name_text o → IfSome o (λ n. n < count) → is_unknown names found ≡ false
  known_scope None found e h = ap (is_unknown names) e
  known_scope (Some n) found e h = ap (is_unknown names) e ∙ ap is_none (known n h)

  module _ (n : ℕ) (node : Node) (low : n < 2 ^ 32) (h : NodeFits node) (k : Forward node) (within : ScopeIn count node) where
    scope_read : name_in (codes "scope") (node_data true n node) ≡ option_map name_text (scope_of node.kind)
    scope_read =
        let back = node_back (Some (string (name_text n))) (scope_data true node.kind) (option_map span_data node.span) node.span (spans_back node.span h.1 k) node.kind in
        scope_name (scope_of node.kind) (get (codes "scope") (node_data true n node)) back.1 within

    node_read : named_node names (node_data true n node) ≡ Some node
    node_read =
        let back = node_back (Some (string (name_text n))) (scope_data true node.kind) (option_map span_data node.span) node.span (spans_back node.span h.1 k) node.kind in
        let attached = option_map (number_of names) (name_in (codes "scope") (node_data true n node)) in
        rw (own_read n node low h k) (back.2 attached (scope_number (scope_of node.kind) (name_in (codes "scope") (node_data true n node)) scope_read within))

    scope_known : has_unknown_scope names (node_data true n node) ≡ false
    scope_known = known_scope (scope_of node.kind) (name_in (codes "scope") (node_data true n node)) scope_read within

  nodes_read : (n : ℕ) (xs : List Node) → n + length xs < 2 ^ 32 → AllByRecursion NodeFits xs → AllByRecursion Forward xs → AllByRecursion (ScopeIn count) xs → map (named_node names) (data_list (nodes_data true n xs)) ≡ map Some xs
  nodes_read n [] low h k w = refl
  nodes_read n (x ∷ xs) low h k w = rw (node_read n x (omega (arith, low)) h.0 k.0 w.0, nodes_read (n + 1) xs (omega (arith, low)) h.1 k.1 w.1) refl

  scopes_known : (n : ℕ) (xs : List Node) → n + length xs < 2 ^ 32 → AllByRecursion NodeFits xs → AllByRecursion Forward xs → AllByRecursion (ScopeIn count) xs → AllByRecursion (λ d. has_unknown_scope names d ≡ false) (data_list (nodes_data true n xs))
  scopes_known n [] low h k w = tt
  scopes_known n (x ∷ xs) low h k w = (scope_known n x (omega (arith, low)) h.0 k.0 w.0, scopes_known (n + 1) xs (omega (arith, low)) h.1 k.1 w.1)

  place_from : (p : Place) → PlaceIn count p → option_and_then (place_called names) (as_str (place_data true p)) ≡ Some p
  place_from Root h = refl
  place_from Jump h = refl
  place_from (At n) h = rw (is_name-name_text n (omega (arith, h, few)), numbers n h) refl

  place_known : (p : Place) → PlaceIn count p → is_unknown names (name_of (place_data true p)) ≡ false
  place_known Root h = refl
  place_known Jump h = refl
  place_known (At n) h = known_scope (Some n) (name_of (string (name_text n))) (name_read n (omega (arith, h, few))) h

  edge_read : (e : Edge) → EdgeFits e → EndsIn count e → named_edge names (edge_data true e) ≡ Some e
  unfolding edge_in
  edge_read e h w = rw (place_from e.source w.0, place_from e.sink w.1, at_most e.precedence 65535 h.2) refl

  edges_read : (xs : List Edge) → AllByRecursion EdgeFits xs → AllByRecursion (EndsIn count) xs → map (named_edge names) (data_list (edges_data true xs)) ≡ map Some xs
  edges_read [] h w = refl
  edges_read (x ∷ xs) h w = rw (edge_read x h.0 w.0, edges_read xs h.1 w.1) refl

  ends_known : (xs : List Edge) → AllByRecursion (EndsIn count) xs → AllByRecursion (λ d. has_unknown_end names d ≡ false) (data_list (edges_data true xs))
  ends_known [] w = tt
  ends_known (x ∷ xs) w = (rw (place_known x.source w.0.0, place_known x.sink w.0.1) refl, ends_known xs w.1)

named_back : (g : Graph) → AllByRecursion NodeFits g.nodes → AllByRecursion EdgeFits g.edges → AllByRecursion Forward g.nodes → graph_fault g.nodes g.edges ≡ None → named_parts (graph_data true g) ≡ Ok (g.nodes, g.edges)
unfolding named_parts lists_in
named_back g h k f right =
    let few = few_nodes g.nodes g.edges right in
    let names = numbered 0 g.nodes in
    let known = first_called-numbered g.nodes few in
    let low : 0 + length g.nodes < 2 ^ 32 = omega (arith, few) in
    let scopes = scopes_in g.nodes g.edges right in
    let ends = ends_in g.nodes g.edges right in
    let no_scope = none_passes (has_unknown_scope names) (data_list (nodes_data true 0 g.nodes)) (scopes_known names (length g.nodes) few known 0 g.nodes low h f scopes) in
    let no_end = none_passes (has_unknown_end names) (data_list (edges_data true g.edges)) (ends_known names (length g.nodes) few known g.edges ends) in
    rw (names_read 0 g.nodes low h f, nodes_read names (length g.nodes) few known 0 g.nodes low h f scopes, edges_read names (length g.nodes) few known g.edges k ends, collected-somes bad_node g.nodes, collected-somes bad_edge g.edges)
    (rw (first_repeat-numbered g.nodes few, no_scope, no_end) refl)

-- a graph printed with names is read as that graph
pub named_graph_back : (g : Graph) (text : List ℕ) → tokens text ≡ json_tokens (graph_json true g) → IsUtf8 text → AllByRecursion NodeFits g.nodes → AllByRecursion EdgeFits g.edges → AllByRecursion Forward g.nodes → graph_fault g.nodes g.edges ≡ None
    → graph_from text ≡ Ok (g.nodes, g.edges)
unfolding graph_from
named_graph_back g text e u h k f right = rw (json_of-value text (graph_data true g) u (text_is true g text e h k), named_back g h k f right, right) refl

pub ruleset laws = (named_graph_back)
