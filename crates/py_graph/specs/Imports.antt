-- The rows of imports. An import's binding isn't a definition.
use Rattle.std.specs.Prelude.{ℕ, List, [], ◌∷◌, map, reverse, Option, Some, None, unwrap_or}
use Rattle.py_subset.specs.declared.tree.Word.{Word}
use Rattle.py_subset.specs.declared.tree.ImportItem.{ImportItem}
use Rattle.py_subset.specs.declared.tree.FromItem.{FromItem}
use Rattle.py_graph.specs.Steps.{Steps, ◌>>=◌, ◌>>◌, value, nothing, each, collect, edge, ◌▸◌, ◌▸?◌, to_root}
use Rattle.py_graph.specs.Nodes.{binding, reference, push_dot}
use Rattle.py_graph.specs.Contexts.{Context}
use Rattle.py_graph.specs.Blocks.{StmtVisit}

-- the names of a dotted name from the last to the first, behind the node of the name after them; the value is the
-- last node made
abbrev pub behind : ℕ → List Word → Steps ℕ
behind n [] = do
  to_root n
  value n
behind n (x ∷ xs) = do
  t ← push_dot
  m ← reference x
  n ▸ t
  t ▸ m
  behind m xs

-- the names of a dotted name from the last to the first; the value is the first and the last node made
abbrev pub backward : List Word → Steps (Option (ℕ × ℕ))
backward [] = value None
backward (x ∷ xs) = do
  n ← reference x
  m ← behind n xs
  value (Some (n, m))

-- a dotted name
abbrev pub dotted : List Word → Steps (Option (ℕ × ℕ))
dotted xs = backward (reverse xs)

-- the first node of a dotted name
abbrev pub first_node : Option (ℕ × ℕ) → Option ℕ
first_node None = None
first_node (Some d) = Some d.0

-- the last node of a dotted name
abbrev pub last_node : Option (ℕ × ℕ) → Option ℕ
last_node None = None
last_node (Some d) = Some d.1

-- `import x1. .. .xk`
abbrev pub import_name : List Word → StmtVisit
import_name [] c = nothing
import_name (x ∷ xs) c = do
  n ← binding x
  edge c.b n c.p
  d ← dotted (x ∷ xs)
  n ▸? last_node d

-- `import x1. .. .xk as y`
abbrev pub import_as : List Word → Word → StmtVisit
import_as xs y c = do
  n ← binding y
  edge c.b n c.p
  d ← dotted xs
  n ▸? first_node d

-- an imported module, with its alias if it has one
abbrev pub import_aliased : List Word → Option Word → StmtVisit
import_aliased xs None = import_name xs
import_aliased xs (Some y) = import_as xs y

-- one of the names that an `import` imports
abbrev pub import_item : ImportItem → StmtVisit
import_item i = import_aliased i.dotted i.alias

-- the name that an item binds
abbrev pub bound : FromItem → Word
bound i = unwrap_or i.alias i.name

-- an item `x as y` of `from d import ..`: its value is the node that is to be joined to d
abbrev pub from_item : Context → FromItem → Steps ℕ
from_item c i = do
  n ← binding (bound i)
  q ← reference i.name
  t ← push_dot
  edge c.b n c.p
  n ▸ q
  q ▸ t
  value t

-- `from d import ..` items
abbrev pub from_items : List Word → List FromItem → StmtVisit
from_items xs items c = do
  ts ← collect (map (from_item c) items)
  d ← dotted xs
  each (map (λ t. t ▸? first_node d) ts)

-- `from d import *`
abbrev pub from_all : List Word → StmtVisit
from_all xs c = do
  t ← push_dot
  edge c.b t c.p
  d ← dotted xs
  t ▸? first_node d
