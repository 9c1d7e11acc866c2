-- The rows of expressions. The value of a visited expression is a node or none.
use Rattle.std.specs.Prelude.{ℕ, ◌+◌, List, [], ◌∷◌, reverse, length, Option, Some, None, Bool, true, false, if◌then◌else◌, ◌==◌}
use Rattle.py_subset.specs.declared.tree.Word.{Word}
use Rattle.py_subset.specs.declared.tree.Expr.{Expr, fold-Expr}
use Rattle.py_subset.specs.declared.tree.Exprs.{Exprs, fold-Exprs}
use Rattle.py_subset.specs.declared.tree.Atom.{Atom, fold-Atom}
use Rattle.py_subset.specs.declared.tree.Atom.TheOpen.{Atom-F, Postfix-F, Expr-F, Exprs-F, Joined-F, Operand-F, Primary-F}
use Rattle.py_subset.specs.declared.tree.Postfix.{Postfix, fold-Postfix}
use Rattle.py_subset.specs.declared.tree.Primary.{Primary, fold-Primary}
use Rattle.py_subset.specs.declared.tree.Operand.{Operand, fold-Operand}
use Rattle.py_subset.specs.declared.tree.Joined.{Joined, fold-Joined}
use Rattle.py_graph.specs.Steps.{Steps, ◌>>=◌, ◌>>◌, value, nothing, ◌▸◌, ◌▸?◌}
use Rattle.py_graph.specs.Nodes.{reference, push_dot, call_nodes, pop_number}

-- the steps of an expression, where plain names are looked up in a scope
abbrev pub Visit : Type 0
Visit = ℕ → Steps (Option ℕ)

-- the steps of a postfix: its first node, and the node that goes on
abbrev pub PostVisit : Type 0
PostVisit = ℕ → Steps (ℕ × ℕ)

-- name x
abbrev pub name : Word → Visit
name x l = do
  n ← reference x
  n ▸ l
  value (Some n)

-- the parts in text order, with no value
abbrev pub parts : List Visit → Visit
parts [] l = value None
parts (e ∷ es) l = do
  e l
  parts es l

-- expressions with commas between: one without a comma is that expression, the others are a tuple
abbrev pub tuple : List Visit → Bool → Visit
tuple [] comma = parts []
tuple (e ∷ []) false = e
tuple (e ∷ []) true = parts (e ∷ [])
tuple (e ∷ f ∷ es) comma = parts (e ∷ f ∷ es)

-- an operand with the operators and operands after it: alone it is that operand
abbrev pub operated : Visit → List Visit → Visit
operated e [] = e
operated e (f ∷ es) = parts (e ∷ f ∷ es)

-- a primary with signs before it, this many
abbrev pub signed : ℕ → Visit → Visit
signed signs e = if signs == 0 then e else parts (e ∷ [])

-- The postfixes from the last to the first, behind a node that goes on. It gets an edge to the first node of the
-- next one. The value is the node that goes on in the end.
abbrev pub onward : ℕ → List PostVisit → ℕ → Steps ℕ
onward t [] l = value t
onward t (post ∷ posts) l = do
  n ← post l
  t ▸ n.0
  onward n.1 posts l

-- the postfixes from the last to the first, then the atom: the value is the first node made
abbrev pub chain : List PostVisit → Visit → Visit
chain [] atom l = atom l
chain (post ∷ posts) atom l = do
  n ← post l
  t ← onward n.1 posts l
  v ← atom l
  t ▸? v
  value (Some n.0)

-- postfix .x
abbrev pub member : Word → PostVisit
member x l = do
  n ← reference x
  t ← push_dot
  n ▸ t
  value (n, t)

-- the arguments of a call from number j on
abbrev pub arguments : ℕ → ℕ → List Visit → ℕ → Steps (Unit {0})
arguments s j [] l = nothing
arguments s j (e ∷ es) l = do
  k ← pop_number j
  s ▸ k
  v ← e l
  k ▸? v
  arguments s (j + 1) es l

-- postfix call: the scope is the next node
abbrev pub call : List Visit → PostVisit
call es l = do
  made ← call_nodes
  arguments made.1 0 es l
  value (made.0, made.0)

-- one level of an expression, with the steps of what it holds in place of that
abbrev pub in_round : Option Visit → Visit
in_round None = parts []
in_round (Some es) = es

-- a list in square brackets has no value
abbrev pub in_square : Option Visit → Visit
in_square None = parts []
in_square (Some es) = parts (es ∷ [])

-- an atom
abbrev pub atom_row : Atom-F Visit PostVisit Visit Visit Visit Visit Visit → Visit
atom_row (Atom-F.Name x) = name x
atom_row Atom-F.Number = parts []
atom_row Atom-F.Text = parts []
atom_row Atom-F.TrueWord = parts []
atom_row Atom-F.FalseWord = parts []
atom_row Atom-F.NoneWord = parts []
atom_row (Atom-F.Round es) = in_round es
atom_row (Atom-F.Square es) = in_square es

-- a member or a call
abbrev pub postfix_row : Postfix-F Visit PostVisit Visit Visit Visit Visit Visit → PostVisit
postfix_row (Postfix-F.Member x) = member x
postfix_row (Postfix-F.Call es) = call es

-- an atom with the members and calls after it
abbrev pub primary_row : Primary-F Visit PostVisit Visit Visit Visit Visit Visit → Visit
primary_row p = chain (reverse p.posts) p.atom

-- a primary with the signs before it
abbrev pub operand_row : Operand-F Visit PostVisit Visit Visit Visit Visit Visit → Visit
operand_row o = signed (length o.signs) o.primary

-- an operator and the operand after it
abbrev pub joined_row : Joined-F Visit PostVisit Visit Visit Visit Visit Visit → Visit
joined_row j = j.operand

-- operands with operators between
abbrev pub expr_row : Expr-F Visit PostVisit Visit Visit Visit Visit Visit → Visit
expr_row e = operated e.first e.rest

-- expressions with commas between
abbrev pub exprs_row : Exprs-F Visit PostVisit Visit Visit Visit Visit Visit → Visit
exprs_row es = tuple es.items es.last_comma

-- whole expressions and their parts
abbrev pub expr : Expr → Visit
expr =
    fold-Expr Visit PostVisit Visit Visit Visit Visit Visit
    atom_row postfix_row expr_row exprs_row joined_row operand_row primary_row

-- whole expressions with commas between
abbrev pub exprs : Exprs → Visit
exprs =
    fold-Exprs Visit PostVisit Visit Visit Visit Visit Visit
    atom_row postfix_row expr_row exprs_row joined_row operand_row primary_row

-- a whole atom
abbrev pub atom : Atom → Visit
atom =
    fold-Atom Visit PostVisit Visit Visit Visit Visit Visit
    atom_row postfix_row expr_row exprs_row joined_row operand_row primary_row

-- a whole member or call
abbrev pub postfix : Postfix → PostVisit
postfix =
    fold-Postfix Visit PostVisit Visit Visit Visit Visit Visit
    atom_row postfix_row expr_row exprs_row joined_row operand_row primary_row

-- a whole primary
abbrev pub primary : Primary → Visit
primary =
    fold-Primary Visit PostVisit Visit Visit Visit Visit Visit
    atom_row postfix_row expr_row exprs_row joined_row operand_row primary_row

-- a whole operand
abbrev pub operand : Operand → Visit
operand =
    fold-Operand Visit PostVisit Visit Visit Visit Visit Visit
    atom_row postfix_row expr_row exprs_row joined_row operand_row primary_row

-- a whole operator with its operand
abbrev pub joined : Joined → Visit
joined =
    fold-Joined Visit PostVisit Visit Visit Visit Visit Visit
    atom_row postfix_row expr_row exprs_row joined_row operand_row primary_row
