-- A printed node reads as the node that it was.
use Rattle.std.proofs.Common.{◌+◌, ◌≡◌, ℕ, ◌<◌, ◌^◌, List, Bool, true, false, Option, Some, None, option_map, option_and_then, is_some, codes, refl, ap, ◌∙◌, arith}
use Rattle.std.specs.Prelude.{IfSome}
use Rattle.std.proofs.lemmas.Bool.Decides.{nat_tests}
use Rattle.json.specs.Json as json
use Rattle.json.specs.Json.{Json}
use Rattle.serde_json.specs.Data.{Data, unsigned, boolean, number, string, array, object, no_items, item, Members, no_members, put}
use Rattle.serde_json.specs.Find.{get}
use Rattle.serde_json.specs.Read.{of_json, of_members}
use Rattle.serde_json.proofs.Numbers.{number_of-decimal}
use Rattle.graph_nodes.specs.declared.node.Node.{Node}
use Rattle.graph_nodes.specs.declared.node.Span.{Span}
use Rattle.graph_nodes.specs.declared.node.NodeKind.{NodeKind}
use Rattle.graph_nodes.specs.declared.node.NodeKind.TheVariants.{Scope, Push, PushScoped, Pop, PopScoped, Drops}
use Rattle.graph_nodes.specs.Graph.{is_exported_kind, is_reference_kind, is_definition_kind}
use Rattle.json_values.specs.Numbers.{only_if, number_between}
use Rattle.graph_json.specs.Pieces.{is_forward, span_of, optional_span}
use Rattle.graph_json.specs.Nodes.{scope_in, marked_in, push_in, push_scoped_in, pop_in, pop_scoped_in, kind_in, node_in}
use Rattle.graph_json.specs.Printed.{with_flag, with_value, number_json, name_text, position_json, span_json, kind_text, symbol_of, scope_of, node_json}
use Rattle.graph_json.specs.PrintSteps.{SpanFits}

-- ---- numbers and spans

pub number_back : (n : ℕ) → n < 2 ^ 32 → of_json (number_json n) ≡ Some (number (unsigned n))
number_back n h = ap (option_map number) (number_of-decimal n (omega (arith, h)))

pub at_most : (n most : ℕ) → n < most + 1 → number_between 0 most (number (unsigned n)) ≡ Some n
at_most n most h = grind (arith, nat_tests)

abbrev pub number_data : ℕ → Data
number_data n = number (unsigned n)

abbrev pub span_data : Span → Data
span_data s = array (item (number_data s.from_line) (item (number_data s.from_column) (item (number_data s.to_line) (item (number_data s.to_column) no_items))))

pub span_json_back : (s : Span) → SpanFits s → of_json (span_json s) ≡ Some (span_data s)
span_json_back s h = rw (number_back s.from_line h.0, number_back s.from_column h.1, number_back s.to_line h.2, number_back s.to_column h.3) refl

pub span_back : (s : Span) → SpanFits s → is_forward s ≡ true → span_of (span_data s) ≡ Some s
unfolding span_of
span_back s h forward = rw (at_most s.from_line 4294967295 h.0, at_most s.from_column 4294967295 h.1, at_most s.to_line 4294967295 h.2, at_most s.to_column 4294967295 h.3) (rw forward refl)

-- ---- an object's members go in one by one

abbrev pub put_flag : List ℕ → Bool → Members → Members
put_flag name true ms = put name (boolean true) ms
put_flag name false ms = ms

abbrev pub put_value : List ℕ → Option Data → Members → Members
put_value name (Some d) ms = put name d ms
put_value name None ms = ms

-- the JSON stands for the value, where there is one
abbrev pub StandsFor : Option Json → Option Data → Type 0
StandsFor (Some j) (Some d) = of_json j ≡ Some d
StandsFor None None = Unit {0}
StandsFor (Some j) None = ⊥
StandsFor None (Some d) = ⊥

flag_step : (name : List ℕ) (b : Bool) (rest : json.Members) (found : Members) → of_members (with_flag name b rest) found ≡ of_members rest (put_flag name b found)
flag_step name true rest found = refl
flag_step name false rest found = refl

pub value_step : (name : List ℕ) (j : Option Json) (d : Option Data) → StandsFor j d → (rest : json.Members) (found : Members) → of_members (with_value name j rest) found ≡ of_members rest (put_value name d found)
value_step name (Some j) (Some d) h rest found = rw h refl
value_step name None None h rest found = refl
value_step name (Some j) None h rest found = absurd h
value_step name None (Some d) h rest found = absurd h

-- the members of a node: of its name, its scope and its span these are the values
abbrev pub node_members : Option Data → Option Data → Option Data → NodeKind → Members
node_members own scope span kind =
    put_value (codes "symbol") (option_map string (symbol_of kind)) (put_value (codes "span") span (put_value (codes "scope") scope (put_flag (codes "reference") (is_reference_kind kind)
    (put_value (codes "name") own (put (codes "kind") (string (kind_text kind)) (put_flag (codes "exported") (is_exported_kind kind) (put_flag (codes "definition") (is_definition_kind kind) no_members)))))))

symbol_stands : (o : Option (List ℕ)) → StandsFor (option_map json.string o) (option_map string o)
symbol_stands None = tt
symbol_stands (Some s) = refl

-- what a node's JSON stands for
pub node_stands : (named : Bool) (n : ℕ) (node : Node) (own scope span : Option Data) → StandsFor (only_if named (json.string (name_text n))) own → StandsFor (option_map (position_json named) (scope_of node.kind)) scope
    → StandsFor (option_map span_json node.span) span → of_json (node_json named n node) ≡ Some (object (node_members own scope span node.kind))
node_stands named n node own scope span a b c =
    ap (option_map object)
    (flag_step (codes "definition") (is_definition_kind node.kind) _ _ ∙ flag_step (codes "exported") (is_exported_kind node.kind) _ _ ∙ value_step (codes "name") _ own a _ _ ∙ flag_step (codes "reference") (is_reference_kind node.kind) _ _
    ∙ value_step (codes "scope") _ scope b _ _ ∙ value_step (codes "span") _ span c _ _ ∙ value_step (codes "symbol") _ _ (symbol_stands (symbol_of node.kind)) _ _)

-- ---- and such an object is the node

-- the name, the scope and the node that are found in it
abbrev IsBack : Option Data → Data → Option Data → Option Span → NodeKind → Type 0
IsBack own scope span spans kind =
    (get (codes "name") (object (node_members own (option_map (λ _. scope) (scope_of kind)) span kind)) ≡ own)
    × (get (codes "scope") (object (node_members own (option_map (λ _. scope) (scope_of kind)) span kind)) ≡ option_map (λ _. scope) (scope_of kind))
    × ((attached : Option ℕ) → IfSome (scope_of kind) (λ n. attached ≡ Some n) → node_in (is_some own) attached (object (node_members own (option_map (λ _. scope) (scope_of kind)) span kind)) ≡ Some (record { kind = kind; span = spans }))

with_kind : (kind : NodeKind) (o : Option (Option Span)) (spans : Option Span) → o ≡ Some spans → option_and_then {U = Node} (λ s. Some (record { kind = kind; span = s })) o ≡ Some (record { kind = kind; span = spans })
with_kind kind o spans e = ap (option_and_then {U = Node} (λ s. Some (record { kind = kind; span = s }))) e

pub node_back : (own : Option Data) (scope : Data) (span : Option Data) (spans : Option Span) → optional_span span ≡ Some spans → (kind : NodeKind) → IsBack own scope span spans kind
unfolding node_in kind_in scope_in marked_in push_in push_scoped_in pop_in pop_scoped_in
node_back None scope None spans e (Scope true) = (refl, refl, λ attached h. with_kind (Scope true) (optional_span None) spans e)
node_back None scope None spans e (Scope false) = (refl, refl, λ attached h. with_kind (Scope false) (optional_span None) spans e)
node_back None scope None spans e (Push y true) = (refl, refl, λ attached h. with_kind (Push y true) (optional_span None) spans e)
node_back None scope None spans e (Push y false) = (refl, refl, λ attached h. with_kind (Push y false) (optional_span None) spans e)
node_back None scope None spans e (PushScoped y n true) = (refl, refl, λ attached h. rw h (with_kind (PushScoped y n true) (optional_span None) spans e))
node_back None scope None spans e (PushScoped y n false) = (refl, refl, λ attached h. rw h (with_kind (PushScoped y n false) (optional_span None) spans e))
node_back None scope None spans e (Pop y true) = (refl, refl, λ attached h. with_kind (Pop y true) (optional_span None) spans e)
node_back None scope None spans e (Pop y false) = (refl, refl, λ attached h. with_kind (Pop y false) (optional_span None) spans e)
node_back None scope None spans e (PopScoped y true) = (refl, refl, λ attached h. with_kind (PopScoped y true) (optional_span None) spans e)
node_back None scope None spans e (PopScoped y false) = (refl, refl, λ attached h. with_kind (PopScoped y false) (optional_span None) spans e)
node_back None scope None spans e Drops = (refl, refl, λ attached h. with_kind Drops (optional_span None) spans e)
node_back None scope (Some p) spans e (Scope true) = (refl, refl, λ attached h. with_kind (Scope true) (optional_span (Some p)) spans e)
node_back None scope (Some p) spans e (Scope false) = (refl, refl, λ attached h. with_kind (Scope false) (optional_span (Some p)) spans e)
node_back None scope (Some p) spans e (Push y true) = (refl, refl, λ attached h. with_kind (Push y true) (optional_span (Some p)) spans e)
node_back None scope (Some p) spans e (Push y false) = (refl, refl, λ attached h. with_kind (Push y false) (optional_span (Some p)) spans e)
node_back None scope (Some p) spans e (PushScoped y n true) = (refl, refl, λ attached h. rw h (with_kind (PushScoped y n true) (optional_span (Some p)) spans e))
node_back None scope (Some p) spans e (PushScoped y n false) = (refl, refl, λ attached h. rw h (with_kind (PushScoped y n false) (optional_span (Some p)) spans e))
node_back None scope (Some p) spans e (Pop y true) = (refl, refl, λ attached h. with_kind (Pop y true) (optional_span (Some p)) spans e)
node_back None scope (Some p) spans e (Pop y false) = (refl, refl, λ attached h. with_kind (Pop y false) (optional_span (Some p)) spans e)
node_back None scope (Some p) spans e (PopScoped y true) = (refl, refl, λ attached h. with_kind (PopScoped y true) (optional_span (Some p)) spans e)
node_back None scope (Some p) spans e (PopScoped y false) = (refl, refl, λ attached h. with_kind (PopScoped y false) (optional_span (Some p)) spans e)
node_back None scope (Some p) spans e Drops = (refl, refl, λ attached h. with_kind Drops (optional_span (Some p)) spans e)
node_back (Some o) scope None spans e (Scope true) = (refl, refl, λ attached h. with_kind (Scope true) (optional_span None) spans e)
node_back (Some o) scope None spans e (Scope false) = (refl, refl, λ attached h. with_kind (Scope false) (optional_span None) spans e)
node_back (Some o) scope None spans e (Push y true) = (refl, refl, λ attached h. with_kind (Push y true) (optional_span None) spans e)
node_back (Some o) scope None spans e (Push y false) = (refl, refl, λ attached h. with_kind (Push y false) (optional_span None) spans e)
node_back (Some o) scope None spans e (PushScoped y n true) = (refl, refl, λ attached h. rw h (with_kind (PushScoped y n true) (optional_span None) spans e))
node_back (Some o) scope None spans e (PushScoped y n false) = (refl, refl, λ attached h. rw h (with_kind (PushScoped y n false) (optional_span None) spans e))
node_back (Some o) scope None spans e (Pop y true) = (refl, refl, λ attached h. with_kind (Pop y true) (optional_span None) spans e)
node_back (Some o) scope None spans e (Pop y false) = (refl, refl, λ attached h. with_kind (Pop y false) (optional_span None) spans e)
node_back (Some o) scope None spans e (PopScoped y true) = (refl, refl, λ attached h. with_kind (PopScoped y true) (optional_span None) spans e)
node_back (Some o) scope None spans e (PopScoped y false) = (refl, refl, λ attached h. with_kind (PopScoped y false) (optional_span None) spans e)
node_back (Some o) scope None spans e Drops = (refl, refl, λ attached h. with_kind Drops (optional_span None) spans e)
node_back (Some o) scope (Some p) spans e (Scope true) = (refl, refl, λ attached h. with_kind (Scope true) (optional_span (Some p)) spans e)
node_back (Some o) scope (Some p) spans e (Scope false) = (refl, refl, λ attached h. with_kind (Scope false) (optional_span (Some p)) spans e)
node_back (Some o) scope (Some p) spans e (Push y true) = (refl, refl, λ attached h. with_kind (Push y true) (optional_span (Some p)) spans e)
node_back (Some o) scope (Some p) spans e (Push y false) = (refl, refl, λ attached h. with_kind (Push y false) (optional_span (Some p)) spans e)
node_back (Some o) scope (Some p) spans e (PushScoped y n true) = (refl, refl, λ attached h. rw h (with_kind (PushScoped y n true) (optional_span (Some p)) spans e))
node_back (Some o) scope (Some p) spans e (PushScoped y n false) = (refl, refl, λ attached h. rw h (with_kind (PushScoped y n false) (optional_span (Some p)) spans e))
node_back (Some o) scope (Some p) spans e (Pop y true) = (refl, refl, λ attached h. with_kind (Pop y true) (optional_span (Some p)) spans e)
node_back (Some o) scope (Some p) spans e (Pop y false) = (refl, refl, λ attached h. with_kind (Pop y false) (optional_span (Some p)) spans e)
node_back (Some o) scope (Some p) spans e (PopScoped y true) = (refl, refl, λ attached h. with_kind (PopScoped y true) (optional_span (Some p)) spans e)
node_back (Some o) scope (Some p) spans e (PopScoped y false) = (refl, refl, λ attached h. with_kind (PopScoped y false) (optional_span (Some p)) spans e)
node_back (Some o) scope (Some p) spans e Drops = (refl, refl, λ attached h. with_kind Drops (optional_span (Some p)) spans e)
