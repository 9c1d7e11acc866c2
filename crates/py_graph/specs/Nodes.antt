-- The nodes that the table makes. `D` is a definition, `R` a reference, `E` exported; what stands in square
-- brackets has that name's span, and the others have none.
use Rattle.std.specs.Prelude.{ℕ, ◌+◌, Some, None, codes, decimal, true, false}
use Rattle.py_subset.specs.declared.tree.Word.{Word}
use Rattle.graph_nodes.specs.declared.node.NodeKind.TheVariants.{Scope, Push, PushScoped, Pop, PopScoped, Drops}
use Rattle.py_graph.specs.Steps.{Steps, ◌>>=◌, value, here, node, span_of}

-- `pop x D [x]`
abbrev pub definition : Word → Steps ℕ
definition x = node (Pop x.text true) (Some (span_of x))

-- `pop x [x]`
abbrev pub binding : Word → Steps ℕ
binding x = node (Pop x.text false) (Some (span_of x))

-- `push x R [x]`
abbrev pub reference : Word → Steps ℕ
reference x = node (Push x.text true) (Some (span_of x))

-- `pop .`
abbrev pub pop_dot : Steps ℕ
pop_dot = node (Pop (codes ".") false) None

-- `push .`
abbrev pub push_dot : Steps ℕ
push_dot = node (Push (codes ".") false) None

-- `pop_scoped ()`
abbrev pub pop_call : Steps ℕ
pop_call = node (PopScoped (codes "()") false) None

-- `push_scoped ()` with the scope at this position
abbrev pub push_call : ℕ → Steps ℕ
push_call scope = node (PushScoped (codes "()") scope false) None

-- `pop` of the numeral j
abbrev pub pop_number : ℕ → Steps ℕ
pop_number j = node (Pop (decimal j) false) None

-- `push` of the numeral j
abbrev pub push_number : ℕ → Steps ℕ
push_number j = node (Push (decimal j) false) None

-- `scope`
abbrev pub scope : Steps ℕ
scope = node (Scope false) None

-- `scope E`
abbrev pub open_scope : Steps ℕ
open_scope = node (Scope true) None

-- `drop`
abbrev pub drops : Steps ℕ
drops = node Drops None

-- `n = push_scoped ()` with scope S; `S = scope E`, the next node. The value is n and S.
abbrev pub call_nodes : Steps (ℕ × ℕ)
call_nodes = do
  at ← here
  n ← push_call (at + 1)
  s ← open_scope
  value (n, s)
