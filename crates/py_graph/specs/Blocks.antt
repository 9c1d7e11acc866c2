-- The steps of the statements of a block.
use Rattle.std.specs.Prelude.{ℕ, ◌+◌, List, [], ◌∷◌}
use Rattle.py_graph.specs.Steps.{Steps, ◌>>◌, nothing}
use Rattle.py_graph.specs.Contexts.{Context, at_place}

-- the steps of a statement, in a context
abbrev pub StmtVisit : Type 0
StmtVisit = Context → Steps (Unit {0})

-- a block of `if`, `while` and `for`: it keeps the whole context
abbrev pub suite : List StmtVisit → StmtVisit
suite [] c = nothing
suite (s ∷ ss) c = do
  s c
  suite ss c

-- the statements of the block of a module, function or class from a place on
abbrev pub block : ℕ → List StmtVisit → StmtVisit
block i [] c = nothing
block i (s ∷ ss) c = do
  s (at_place i c)
  block (i + 1) ss c
