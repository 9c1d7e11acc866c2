-- What one step of printing adds to the tokens, and what the types say of the numbers; no public clause cites this file.
use Rattle.std.specs.Prelude.{◌≡◌, ◌<◌, ◌^◌, ℕ, List, [], ◌∷◌, ◌++◌, Bool, true, false, Option, Some, None, codes, Result, OnOk, IfSome}
use Rattle.json.specs.Token as token
use Rattle.json.specs.Token.{Token}
use Rattle.json.specs.Json.{Json, string}
use Rattle.json.specs.Tree.{json_tokens}
use Rattle.json.specs.Written.{Written}
use Rattle.graph_nodes.specs.declared.node.Node.{Node}
use Rattle.graph_nodes.specs.declared.node.Edge.{Edge}
use Rattle.graph_nodes.specs.declared.node.Span.{Span}
use Rattle.graph_nodes.specs.declared.node.NodeKind.{NodeKind}
use Rattle.graph_nodes.specs.declared.node.Place.{Place}
use Rattle.graph_nodes.specs.declared.node.Place.TheVariants.{Root, Jump, At}
use Rattle.graph_nodes.specs.Graph.{is_exported_kind, is_definition_kind}
use Rattle.json_values.specs.Numbers.{only_if}
use Rattle.graph_json.specs.Printed.{name_text, kind_text, scope_of}

-- ---- what the types say of the numbers

-- the lines and columns of a span are numbers of 32 bits
abbrev pub SpanFits : Span → Type 0
SpanFits s =
    (s.from_line < 2 ^ 32) × (s.from_column < 2 ^ 32) × (s.to_line < 2 ^ 32)
    × (s.to_column < 2 ^ 32)

-- so are the position of the scope that a node attaches, and the numbers of its span, where it has them
abbrev pub NodeFits : Node → Type 0
NodeFits node = IfSome (scope_of node.kind) (λ n. n < 2 ^ 32) × IfSome node.span SpanFits

-- the node of the kind with the span
abbrev pub node_with : NodeKind → Option Span → Node
node_with kind span = record { kind = kind; span = span }

-- a place's position, where it has one, is a number of 32 bits
abbrev pub PlaceFits : Place → Type 0
PlaceFits Root = Unit {0}
PlaceFits Jump = Unit {0}
PlaceFits (At n) = n < 2 ^ 32

-- an edge's ends are such places, and its precedence is a number of 16 bits
abbrev pub EdgeFits : Edge → Type 0
EdgeFits e = PlaceFits e.source × PlaceFits e.sink × (e.precedence < 2 ^ 16)

-- ---- a step of printing

-- where it went well, these tokens were added, and nothing before them changed
pub record Adds {E : Type 0} (r : Result (Unit {0}) E) (old new : Written)
    (ts : List Token) : Type 0 where
  pub ok : OnOk r (new.tokens ≡ old.tokens ++ ts)
  pub before : new.before ≡ old.before

-- the tokens of a truth value's member
abbrev pub flag_tokens : List ℕ → Bool → List Token
flag_tokens name true = token.key name ∷ token.boolean true ∷ []
flag_tokens name false = []

-- the tokens of a value's member
abbrev pub value_tokens : List ℕ → Option Json → List Token
value_tokens name (Some j) = token.key name ∷ json_tokens j
value_tokens name None = []

-- the tokens of a node before its member `reference`
abbrev pub front_tokens : Bool → ℕ → NodeKind → List Token
front_tokens named n kind =
    flag_tokens (codes "definition") (is_definition_kind kind)
    ++ (flag_tokens (codes "exported") (is_exported_kind kind)
    ++ (token.key (codes "kind") ∷ token.string (kind_text kind)
    ∷ value_tokens (codes "name") (only_if named (string (name_text n)))))
