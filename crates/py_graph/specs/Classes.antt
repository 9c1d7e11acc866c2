-- The rows of classes.
use Rattle.std.specs.Prelude.{ℕ, List, [], ◌∷◌}
use Rattle.py_subset.specs.declared.tree.Word.{Word}
use Rattle.py_graph.specs.Steps.{Steps, ◌>>=◌, ◌>>◌, value, nothing, edge, ◌▸◌, ◌▸?◌}
use Rattle.py_graph.specs.Nodes.{definition, pop_call, pop_dot, push_dot, scope, drops}
use Rattle.py_graph.specs.Contexts.{Context, in_class}
use Rattle.py_graph.specs.Blocks.{StmtVisit, block}
use Rattle.py_graph.specs.Expressions.{Visit}

-- the base classes, with the class's members m; they are looked up where the class stands
abbrev pub bases : ℕ → List Visit → ℕ → Steps (Unit {0})
bases m [] l = nothing
bases m (e ∷ es) l = do
  t ← push_dot
  m ▸ t
  v ← e l
  t ▸? v
  bases m es l

-- The nodes of `class C(..)`. The value is M and A, and then L and B.
abbrev pub nodes : Word → Context → Steps ((ℕ × ℕ) × (ℕ × ℕ))
nodes name c = do
  n ← definition name
  k ← pop_call
  d ← drops
  t ← pop_dot
  m ← scope
  a ← scope
  l ← scope
  b ← scope
  edge c.b n c.p
  n ▸ k
  k ▸ d
  d ▸ t
  n ▸ t
  t ▸ m
  edge m a 2
  edge m b 1
  edge l b 1
  l ▸ c.o
  value ((m, a), (l, b))

-- `class C(..)`: its nodes, its bases in the enclosing context, and its block
abbrev pub class : Word → List Visit → List StmtVisit → StmtVisit
class name supers body c = do
  made ← nodes name c
  bases made.0.0 supers c.l
  block 1 body (in_class made.1.1 made.1.0 made.0 c)
