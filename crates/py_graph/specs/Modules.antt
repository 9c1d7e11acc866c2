-- The rows of a module, and what a translation answers.
use Rattle.std.specs.Prelude.{◌≡◌, ℕ, List, [], ◌∷◌, map, length, Bool, true, false, nat_lt, if◌then◌else◌, Option, Some, None, Result, Ok, Err}
use Rattle.py_subset.specs.declared.tree.Stmt.{Stmt}
use Rattle.py_subset.specs.declared.tree.Module.{Module}
use Rattle.graph_nodes.specs.declared.node.NodeKind.TheVariants.{Pop}
use Rattle.graph_nodes.specs.declared.node.Span.{Span}
use Rattle.graph_nodes.specs.Limits.{max_edges}
use Rattle.graph_nodes.specs.Graph.{Graph}
use Rattle.py_graph.specs.declared.fault.TransFault.{TransFault}
use Rattle.py_graph.specs.declared.fault.TransFault.TheVariants as fault
use Rattle.py_graph.specs.Steps.{Steps, ◌>>=◌, ◌>>◌, nothing, node, ◌▸◌, from_root}
use Rattle.py_graph.specs.Nodes.{pop_dot, scope}
use Rattle.py_graph.specs.Contexts.{in_module}
use Rattle.py_graph.specs.Blocks.{block}
use Rattle.py_graph.specs.Statements.{stmt}
use Rattle.py_graph.specs.Names.{module_name}

-- the span of a module's own name
abbrev pub start : Span
start = record { from_line = 0; from_column = 0; to_line = 0; to_column = 0 }

-- `pop x` of a part of the module's name; the last one is a definition with a span
abbrev pub part : List ℕ → Bool → Steps ℕ
part x true = node (Pop x true) (Some start)
part x false = node (Pop x false) None

-- an edge to the node from the one before it, or from the root
abbrev pub arrive : Option ℕ → ℕ → Steps (Unit {0})
arrive None n = from_root n
arrive (Some t) n = t ▸ n

-- whether no part stands behind
abbrev pub is_last : List (List ℕ) → Bool
is_last [] = true
is_last (x ∷ xs) = false

-- the parts of the module's name, behind a node or the root, and then the module's scope s
abbrev pub path : Option ℕ → List (List ℕ) → ℕ → Steps (Unit {0})
path None [] s = nothing
path (Some t) [] s = t ▸ s
path before (x ∷ xs) s = do
  n ← part x (is_last xs)
  t ← pop_dot
  arrive before n
  n ▸ t
  path (Some t) xs s

-- a module with these parts as its name
abbrev pub table : List (List ℕ) → List Stmt → Steps (Unit {0})
table parts body = do
  s ← scope
  path None parts s
  block 1 (map stmt body) (in_module s)

-- no nodes and no edges
abbrev pub empty : Graph
empty = record { nodes = []; edges = [] }

-- a graph, where it has no more edges than a file may have
abbrev pub limited : Graph → Result Graph TransFault
limited g = if nat_lt max_edges (length g.edges) then Err (fault.TooManyEdges 65537) else Ok g

-- what the steps of the table leave, or the fault where they would make more nodes than a file may have
abbrev pub told : Option (Unit {0} × Graph) → Result Graph TransFault
told None = Err (fault.TooManyNodes 16385)
told (Some r) = limited r.1

-- the graph of a module whose path gives these parts, if it gives a name
abbrev pub graph_of_named : Option (List (List ℕ)) → List Stmt → Result Graph TransFault
graph_of_named None body = Err fault.BadName
graph_of_named (Some parts) body = told (table parts body empty)

-- the graph of a module at a path, or its fault
abbrev pub graph_of : List ℕ → Module → Result Graph TransFault
graph_of path whole = graph_of_named (module_name path) whole.body

-- An answer is what the table gives, unless memory ran out.
abbrev pub Translates : Result Graph TransFault → Result Graph TransFault → Type 0
Translates (Ok g) r = r ≡ Ok g
Translates (Err fault.BadName) r = r ≡ Err fault.BadName
Translates (Err (fault.TooManyNodes n)) r = r ≡ Err (fault.TooManyNodes n)
Translates (Err (fault.TooManyEdges n)) r = r ≡ Err (fault.TooManyEdges n)
Translates (Err fault.NoMemory) r = Unit {0}
