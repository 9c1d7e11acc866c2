-- Which JSON objects are nodes, by the table of kinds; both formats share it.
use Rattle.std.specs.Prelude.{ℕ, List, Bool, false, ◌&&◌, ◌||◌, if◌then◌else◌, Option, Some, option_map, codes}
use Rattle.std.specs.Str.{bytes_eq}
use Rattle.serde_json.specs.Data.{Data}
use Rattle.serde_json.specs.Find.{get}
use Rattle.graph_nodes.specs.declared.node.Node.{Node}
use Rattle.graph_nodes.specs.declared.node.NodeKind.{NodeKind}
use Rattle.graph_nodes.specs.declared.node.NodeKind.TheVariants.{Scope, Push, PushScoped, Pop, PopScoped, Drops}
use Rattle.json_values.specs.Numbers.{only_if}
use Rattle.json_values.specs.Members.{has_only}
use Rattle.graph_json.specs.Pieces.{◌>>=◌, flag_in, text_in, optional_span}

-- one row of the table each, from the object's members; `scope` is what its member `scope` names
unfoldable pub scope_in : Data → Option NodeKind
scope_in d = option_map Scope (flag_in (codes "exported") d)

-- a symbol, and the flag of this name
unfoldable pub marked_in : List ℕ → Data → Option (List ℕ × Bool)
marked_in name d = do
  flag ← flag_in name d
  symbol ← text_in (codes "symbol") d
  Some (symbol, flag)

-- a `push`: a symbol, and whether it is a reference
unfoldable pub push_in : Data → Option NodeKind
push_in d = option_map (λ m. Push m.0 m.1) (marked_in (codes "reference") d)

-- a `push_scoped`: the same, with the scope that is attached to the symbol
unfoldable pub push_scoped_in : Option ℕ → Data → Option NodeKind
push_scoped_in scope d = do
  attached ← scope
  option_map (λ m. PushScoped m.0 attached m.1) (marked_in (codes "reference") d)

-- a `pop`: a symbol, and whether it is a definition
unfoldable pub pop_in : Data → Option NodeKind
pop_in d = option_map (λ m. Pop m.0 m.1) (marked_in (codes "definition") d)

-- a `pop_scoped`: the same members as those of a `pop`
unfoldable pub pop_scoped_in : Data → Option NodeKind
pop_scoped_in d = option_map (λ m. PopScoped m.0 m.1) (marked_in (codes "definition") d)

-- the row for that text in the member `kind`
unfoldable pub kind_in : List ℕ → Option ℕ → Data → Option NodeKind
kind_in kind scope d =
    if bytes_eq kind (codes "scope") then scope_in d else
    (if bytes_eq kind (codes "push") then push_in d else
    (if bytes_eq kind (codes "push_scoped") then push_scoped_in scope d else
    (if bytes_eq kind (codes "pop") then pop_in d else
    (if bytes_eq kind (codes "pop_scoped") then pop_scoped_in d else
    only_if (bytes_eq kind (codes "drop")) Drops))))

-- whether a node of this kind may have a member of this name, beside `kind` and `span`
abbrev pub takes : NodeKind → List ℕ → Bool
takes (Scope exported) name = bytes_eq name (codes "exported")
takes (Push symbol reference) name =
    bytes_eq name (codes "symbol") || bytes_eq name (codes "reference")
takes (PushScoped symbol scope reference) name =
    bytes_eq name (codes "symbol") || bytes_eq name (codes "scope")
    || bytes_eq name (codes "reference")
takes (Pop symbol definition) name =
    bytes_eq name (codes "symbol") || bytes_eq name (codes "definition")
takes (PopScoped symbol definition) name =
    bytes_eq name (codes "symbol") || bytes_eq name (codes "definition")
takes Drops name = false

-- whether a node may have a member of this name; `name` is one where nodes have names
abbrev pub may_have : Bool → NodeKind → List ℕ → Bool
may_have named kind name =
    bytes_eq name (codes "kind") || bytes_eq name (codes "span")
    || (named && bytes_eq name (codes "name")) || takes kind name

-- a node: an object of its kind's members and no others
unfoldable pub node_in : Bool → Option ℕ → Data → Option Node
node_in named scope d = do
  span ← optional_span (get (codes "span") d)
  text ← text_in (codes "kind") d
  kind ← kind_in text scope d
  only_if (has_only (may_have named kind) d) (record { kind = kind; span = span })
