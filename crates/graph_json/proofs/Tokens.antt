-- The tokens of a node, of the lists and of the whole, piece by piece.
use Rattle.std.proofs.Common.{◌≡◌, ℕ, ◌+◌, List, [], ◌∷◌, ◌++◌, Bool, true, false, Option, Some, None, option_map, codes, refl, sym, ap, ◌∙◌, subst, append_assoc, append-nil, arith, suc, ◌≤◌, length, take, slice_get, Result, Ok, Err}
use Rattle.std.specs.Prelude.{OnOk}
use Rattle.json.specs.Token as token
use Rattle.json.specs.Token.{Token}
use Rattle.json.specs.Json.{Json, string, Members}
use Rattle.json.specs.Tree.{json_tokens, items_tokens, members_tokens}
use Rattle.json.specs.Written.{Written}
use Rattle.std.specs.List.{AllByRecursion}
use Rattle.std.proofs.lemmas.List.{take_more, take_all, length-take}
use Rattle.std.specs.Option.{option_and_then}
use Rattle.std.proofs.lemmas.Option.{same_Some, slice_get_within, get_or_from_slice_get}
use Rattle.graph_nodes.specs.declared.node.Edge.{Edge}
use Rattle.graph_nodes.specs.declared.node.Node.{Node}
use Rattle.graph_nodes.specs.declared.node.NodeKind.{NodeKind}
use Rattle.graph_nodes.specs.declared.node.Span.{Span}
use Rattle.graph_nodes.specs.Graph.{Graph, is_reference_kind}
use Rattle.json_values.specs.Numbers.{only_if}
use Rattle.graph_json.specs.Printed.{with_flag, with_value, position_json, span_json, symbol_of, scope_of, node_json, nodes_json, edge_json, edges_json, graph_json, number_json}
use Rattle.graph_json.specs.PrintSteps.{flag_tokens, value_tokens, front_tokens, NodeFits, EdgeFits, Adds, node_with}

members_tokens-with_flag : (name : List ℕ) (b : Bool) (rest : Members) → members_tokens (with_flag name b rest) ≡ flag_tokens name b ++ members_tokens rest
members_tokens-with_flag name true rest = refl
members_tokens-with_flag name false rest = refl

members_tokens-with_value : (name : List ℕ) (o : Option Json) (rest : Members) → members_tokens (with_value name o rest) ≡ value_tokens name o ++ members_tokens rest
members_tokens-with_value name (Some j) rest = refl
members_tokens-with_value name None rest = refl

pub node_tokens : (named : Bool) (n : ℕ) (node : Node)
    → json_tokens (node_json named n node) ≡ token.begin_object ∷ (front_tokens named n node.kind ++ (flag_tokens (codes "reference") (is_reference_kind node.kind)
    ++ (value_tokens (codes "scope") (option_map (position_json named) (scope_of node.kind)) ++ (value_tokens (codes "span") (option_map span_json node.span)
    ++ (value_tokens (codes "symbol") (option_map string (symbol_of node.kind)) ++ token.end_object ∷ [])))))
node_tokens named n node = simp (members_tokens-with_flag, members_tokens-with_value, append_assoc)

pub ruleset nodes = (node_tokens, append_assoc)

-- ---- a list that grows at its end

pub nodes_tokens : Bool → ℕ → List Node → List Token
nodes_tokens named n [] = []
nodes_tokens named n (node ∷ rest) = json_tokens (node_json named n node) ++ nodes_tokens named (n + 1) rest

pub edges_tokens : Bool → List Edge → List Token
edges_tokens named [] = []
edges_tokens named (e ∷ es) = json_tokens (edge_json named e) ++ edges_tokens named es

nodes_tokens-push : (named : Bool) (n : ℕ) (xs : List Node) (x : Node) → nodes_tokens named n (xs ++ x ∷ []) ≡ nodes_tokens named n xs ++ json_tokens (node_json named (n + length xs) x)
unfolding nodes_tokens
nodes_tokens-push named n [] x = let e : n + 0 ≡ n = omega arith in rw (e, append-nil) refl
nodes_tokens-push named n (y ∷ xs) x =
    let e : n + suc (length xs) ≡ (n + 1) + length xs = omega arith in
    rw (e, nodes_tokens-push named (n + 1) xs x) (sym (append_assoc (json_tokens (node_json named n y)) _ _))

edges_tokens-push : (named : Bool) (xs : List Edge) (x : Edge) → edges_tokens named (xs ++ x ∷ []) ≡ edges_tokens named xs ++ json_tokens (edge_json named x)
unfolding edges_tokens
edges_tokens-push named [] x = rw append-nil refl
edges_tokens-push named (y ∷ xs) x = rw (edges_tokens-push named xs x) (sym (append_assoc (json_tokens (edge_json named y)) _ _))

pub items_tokens-nodes : (named : Bool) (n : ℕ) (xs : List Node) → items_tokens (nodes_json named n xs) ≡ nodes_tokens named n xs ++ token.end_array ∷ []
unfolding nodes_tokens
items_tokens-nodes named n [] = refl
items_tokens-nodes named n (x ∷ xs) = rw (items_tokens-nodes named (n + 1) xs) (sym (append_assoc (json_tokens (node_json named n x)) _ _))

pub items_tokens-edges : (named : Bool) (xs : List Edge) → items_tokens (edges_json named xs) ≡ edges_tokens named xs ++ token.end_array ∷ []
unfolding edges_tokens
items_tokens-edges named [] = refl
items_tokens-edges named (x ∷ xs) = rw (items_tokens-edges named xs) (sym (append_assoc (json_tokens (edge_json named x)) _ _))

fits_push : {A : Type 0} (P : A → Type 0) (xs : List A) (x : A) → AllByRecursion P xs → P x → AllByRecursion P (xs ++ x ∷ [])
fits_push P [] x h p = (p, tt)
fits_push P (y ∷ xs) x h p = (h.0, fits_push P xs x h.1 p)

take_at : {A : Type 0} (xs : List A) (n : ℕ) (x : A) → slice_get xs n ≡ Some x → take (n + 1) xs ≡ take n xs ++ x ∷ []
take_at xs n x h = take_more xs n x (slice_get_within xs n x h) ∙ ap (λ y. take n xs ++ y ∷ []) (get_or_from_slice_get xs n x x h)

-- the tokens of the first n were written after these, and their numbers fit
pub record WroteNodes (named : Bool) (before now : Written) (n : ℕ) (xs : List Node) : Type 0 where
  pub tokens : now.tokens ≡ before.tokens ++ nodes_tokens named 0 (take n xs)
  pub before_it : now.before ≡ before.before
  pub fits : AllByRecursion NodeFits (take n xs)

pub record WroteEdges (named : Bool) (before now : Written) (n : ℕ) (xs : List Edge) : Type 0 where
  pub tokens : now.tokens ≡ before.tokens ++ edges_tokens named (take n xs)
  pub before_it : now.before ≡ before.before
  pub fits : AllByRecursion EdgeFits (take n xs)

pub no_nodes : (named : Bool) (w : Written) (xs : List Node) → WroteNodes named w w 0 xs
unfolding nodes_tokens
no_nodes named w xs = record { tokens = sym (append-nil w.tokens); before_it = refl; fits = tt }

pub no_edges : (named : Bool) (w : Written) (xs : List Edge) → WroteEdges named w w 0 xs
unfolding edges_tokens
no_edges named w xs = record { tokens = sym (append-nil w.tokens); before_it = refl; fits = tt }

-- the node at a position by its kind and its span
pub node_again : (xs : List Node) (n : ℕ) (kind : NodeKind) (span : Option Span) → option_map (λ (x : Node). x.kind) (slice_get xs n) ≡ Some kind
    → span ≡ option_and_then (λ (x : Node). x.span) (slice_get xs n) → slice_get xs n ≡ Some (node_with kind span)
node_again xs n kind span k s = by (slice_get xs n) k s
  where
    by : (o : Option Node) → option_map (λ (x : Node). x.kind) o ≡ Some kind → span ≡ option_and_then (λ (x : Node). x.span) o → o ≡ Some (node_with kind span)
    by None k s = cc
    by (Some x) k s = let same : x.kind ≡ kind = same_Some x.kind kind k in rw (s, ← same) refl

pub one_node : (named : Bool) (a b c : Written) (n : ℕ) (xs : List Node) (x : Node) → slice_get xs n ≡ Some x → WroteNodes named a b n xs → c.tokens ≡ b.tokens ++ json_tokens (node_json named n x) → c.before ≡ b.before → NodeFits x → WroteNodes named a c (n + 1) xs
one_node named a b c n xs x at w more same fits =
    let grown = take_at xs n x at in
    let count : 0 + length (take n xs) ≡ n = omega (arith, length-take n xs, slice_get_within xs n x at) in
    record {
      tokens = more ∙ ap (λ l. l ++ json_tokens (node_json named n x)) w.tokens ∙ append_assoc a.tokens _ _
          ∙ ap (λ l. a.tokens ++ l) (ap (λ k. nodes_tokens named 0 (take n xs) ++ json_tokens (node_json named k x)) (sym count) ∙ sym (nodes_tokens-push named 0 (take n xs) x) ∙ ap (nodes_tokens named 0) (sym grown));
      before_it = same ∙ w.before_it;
      fits = subst (AllByRecursion NodeFits) (sym grown) (fits_push NodeFits (take n xs) x w.fits fits);
    }

pub one_edge : (named : Bool) (a b c : Written) (n : ℕ) (xs : List Edge) (x : Edge) → slice_get xs n ≡ Some x → WroteEdges named a b n xs → c.tokens ≡ b.tokens ++ json_tokens (edge_json named x) → c.before ≡ b.before → EdgeFits x → WroteEdges named a c (n + 1) xs
one_edge named a b c n xs x at w more same fits =
    let grown = take_at xs n x at in
    record {
      tokens = more ∙ ap (λ l. l ++ json_tokens (edge_json named x)) w.tokens ∙ append_assoc a.tokens _ _
          ∙ ap (λ l. a.tokens ++ l) (sym (edges_tokens-push named (take n xs) x) ∙ ap (edges_tokens named) (sym grown));
      before_it = same ∙ w.before_it;
      fits = subst (AllByRecursion EdgeFits) (sym grown) (fits_push EdgeFits (take n xs) x w.fits fits);
    }

pub all_nodes : (named : Bool) (a b c : Written) (n : ℕ) (xs : List Node) → length xs ≤ n → WroteNodes named a b n xs → c.tokens ≡ b.tokens ++ token.end_array ∷ [] → c.tokens ≡ a.tokens ++ items_tokens (nodes_json named 0 xs)
all_nodes named a b c n xs h w more =
    more ∙ ap (λ l. l ++ token.end_array ∷ []) (w.tokens ∙ ap (λ l. a.tokens ++ nodes_tokens named 0 l) (take_all n xs h)) ∙ append_assoc a.tokens _ _ ∙ ap (λ l. a.tokens ++ l) (sym (items_tokens-nodes named 0 xs))

pub all_edges : (named : Bool) (a b c : Written) (n : ℕ) (xs : List Edge) → length xs ≤ n → WroteEdges named a b n xs → c.tokens ≡ b.tokens ++ token.end_array ∷ [] → c.tokens ≡ a.tokens ++ items_tokens (edges_json named xs)
all_edges named a b c n xs h w more =
    more ∙ ap (λ l. l ++ token.end_array ∷ []) (w.tokens ∙ ap (λ l. a.tokens ++ edges_tokens named l) (take_all n xs h)) ∙ append_assoc a.tokens _ _ ∙ ap (λ l. a.tokens ++ l) (sym (items_tokens-edges named xs))

onto : {E : Type 0} (P Q : Type 0) → (P → Q) → (r : Result (Unit {0}) E) → OnOk r P → OnOk r Q
onto P Q f (Ok x) h = f h
onto P Q f (Err e) h = tt

pub adds_nodes : {E : Type 0} (r : Result (Unit {0}) E) (named : Bool) (a b c : Written) (n : ℕ) (xs : List Node) → length xs ≤ n → WroteNodes named a b n xs → OnOk r (c.tokens ≡ b.tokens ++ token.end_array ∷ []) → c.before ≡ b.before
    → Adds r a c (items_tokens (nodes_json named 0 xs))
adds_nodes r named a b c n xs h w more same =
    record { ok = onto (c.tokens ≡ b.tokens ++ token.end_array ∷ []) (c.tokens ≡ a.tokens ++ items_tokens (nodes_json named 0 xs)) (all_nodes named a b c n xs h w) r more; before = same ∙ w.before_it }

pub adds_edges : {E : Type 0} (r : Result (Unit {0}) E) (named : Bool) (a b c : Written) (n : ℕ) (xs : List Edge) → length xs ≤ n → WroteEdges named a b n xs → OnOk r (c.tokens ≡ b.tokens ++ token.end_array ∷ []) → c.before ≡ b.before
    → Adds r a c (items_tokens (edges_json named xs))
adds_edges r named a b c n xs h w more same =
    record { ok = onto (c.tokens ≡ b.tokens ++ token.end_array ∷ []) (c.tokens ≡ a.tokens ++ items_tokens (edges_json named xs)) (all_edges named a b c n xs h w) r more; before = same ∙ w.before_it }

pub graph_tokens : (named : Bool) (g : Graph)
    → json_tokens (graph_json named g) ≡ token.begin_object ∷ token.key (codes "edges") ∷ token.begin_array ∷ (items_tokens (edges_json named g.edges) ++ (value_tokens (codes "format") (only_if named (number_json 2))
    ++ token.key (codes "nodes") ∷ token.begin_array ∷ (items_tokens (nodes_json named 0 g.nodes) ++ token.end_object ∷ [])))
graph_tokens named g = simp members_tokens-with_value

pub ruleset wholes = (graph_tokens, append_assoc)
