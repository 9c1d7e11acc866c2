-- The rows of functions.
use Rattle.std.specs.Prelude.{ℕ, ◌+◌, List, [], ◌∷◌, Option, Some, None}
use Rattle.py_subset.specs.declared.tree.Word.{Word}
use Rattle.py_graph.specs.Steps.{Steps, ◌>>=◌, ◌>>◌, value, nothing, edge, ◌▸◌, to_jump}
use Rattle.py_graph.specs.Nodes.{definition, pop_call, pop_dot, push_number, scope, drops}
use Rattle.py_graph.specs.Contexts.{Context, self_of, in_function}
use Rattle.py_graph.specs.Blocks.{StmtVisit, block}

-- parameter 0 of a method, in the scope s of its block; m is the members of the class
abbrev pub self_parameter : ℕ → ℕ → Word → Steps (Unit {0})
self_parameter s m x = do
  n ← definition x
  e ← drops
  k ← pop_dot
  edge s n 1
  n ▸ e
  e ▸ k
  k ▸ m

-- another parameter, whose numeral is j
abbrev pub parameter : ℕ → ℕ → Word → Steps (Unit {0})
parameter s j x = do
  n ← definition x
  k ← push_number j
  edge s n 1
  n ▸ k
  to_jump k

-- parameters whose numerals count from j on
abbrev pub parameters : ℕ → ℕ → List Word → Steps (Unit {0})
parameters s j [] = nothing
parameters s j (x ∷ xs) = do
  parameter s j x
  parameters s (j + 1) xs

-- All parameters. A function is a method where it stands in a class's block; then parameter j has the numeral j - 1.
abbrev pub all_parameters : Option (ℕ × ℕ) → ℕ → List Word → Steps (Unit {0})
all_parameters None s xs = parameters s 0 xs
all_parameters (Some class) s [] = nothing
all_parameters (Some class) s (x ∷ xs) = do
  self_parameter s class.0 x
  parameters s 0 xs

-- The nodes of `def f(..)`. The value is F and the returns.
abbrev pub nodes : Word → Context → Steps (ℕ × ℕ)
nodes name c = do
  f ← definition name
  k ← pop_call
  r ← scope
  s ← scope
  d ← drops
  edge c.b f c.p
  f ▸ k
  k ▸ r
  s ▸ d
  d ▸ c.o
  value (s, r)

-- `def f(..)`: its nodes, its parameters, and its block
abbrev pub function : Word → List Word → List StmtVisit → StmtVisit
function name params body c = do
  made ← nodes name c
  all_parameters c.class made.0 params
  block 1 body (in_function made.0 made.1 (self_of c.class params))
