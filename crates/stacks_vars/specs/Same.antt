-- Tests whether two stacks are equal. No public definition of a path cites them; code compares by them.
use Rattle.std.specs.Prelude.{List, Bool, true, false, nat_eq, ◌&&◌, Option, Some, None}
use Rattle.std.specs.Cmp.Lexicographic.{pointwise}
use Rattle.std.specs.Str.{bytes_eq}
use Rattle.stacks_vars.specs.declared.scopes.NodeAt.{NodeAt}
use Rattle.stacks_vars.specs.declared.items.SymbolItem.{SymbolItem}
use Rattle.stacks_vars.specs.declared.stacks.Stacks.{Stacks}

-- whether two nodes are the same node of the same file
abbrev pub node_eq : NodeAt → NodeAt → Bool
node_eq a b = nat_eq a.file b.file && nat_eq a.node b.node

-- whether two scope stacks are equal
abbrev pub scopes_eq : List NodeAt → List NodeAt → Bool
scopes_eq = pointwise node_eq

-- whether both are plain, or both have the same attached scopes
abbrev pub attached_eq : Option (List NodeAt) → Option (List NodeAt) → Bool
attached_eq None None = true
attached_eq None (Some b) = false
attached_eq (Some a) None = false
attached_eq (Some a) (Some b) = scopes_eq a b

-- whether two symbols on a stack are equal
abbrev pub item_eq : SymbolItem → SymbolItem → Bool
item_eq a b = bytes_eq a.symbol b.symbol && attached_eq a.scopes b.scopes

-- whether two pairs of stacks are equal
abbrev pub stacks_eq : Stacks → Stacks → Bool
stacks_eq a b = pointwise item_eq a.symbols b.symbols && scopes_eq a.scopes b.scopes
