-- The rows of statements.
use Rattle.std.specs.Prelude.{ℕ, List, [], ◌∷◌, map, reverse, length, Option, Some, None, if◌then◌else◌, ◌==◌}
use Rattle.std.specs.Str.{bytes_eq}
use Rattle.py_subset.specs.declared.tree.Word.{Word}
use Rattle.py_subset.specs.declared.tree.Target.{Target}
use Rattle.py_subset.specs.declared.tree.Target.TheVariants as target
use Rattle.py_subset.specs.declared.tree.Primary.{Primary}
use Rattle.py_subset.specs.declared.tree.Expr.{Expr}
use Rattle.py_subset.specs.declared.tree.Exprs.{Exprs}
use Rattle.py_subset.specs.declared.tree.Joined.{Joined}
use Rattle.py_subset.specs.declared.tree.Operand.{Operand}
use Rattle.py_subset.specs.declared.tree.Postfix.{Postfix}
use Rattle.py_subset.specs.declared.tree.Atom.{Atom, out-Atom}
use Rattle.py_subset.specs.declared.tree.Atom.TheOpen.{Atom-F}
use Rattle.py_subset.specs.declared.tree.Stmt.{Stmt, fold-Stmt}
use Rattle.py_subset.specs.declared.tree.Stmt.TheOpen.{Stmt-F, Arm-F}
use Rattle.py_subset.specs.declared.tree.Arm.{Arm, fold-Arm}
use Rattle.py_graph.specs.Steps.{Steps, ◌>>=◌, ◌>>◌, nothing, edge, ◌▸◌, ◌▸?◌}
use Rattle.py_graph.specs.Nodes.{definition}
use Rattle.py_graph.specs.Blocks.{StmtVisit, suite}
use Rattle.py_graph.specs.Expressions.{name, member, chain, expr, exprs, atom, postfix}
use Rattle.py_graph.specs.Imports.{import_item, from_items, from_all}
use Rattle.py_graph.specs.Functions.{function}
use Rattle.py_graph.specs.Classes.{class}

-- `x = e`
abbrev pub assign_name : Word → Exprs → StmtVisit
assign_name x e c = do
  n ← definition x
  edge c.b n c.p
  v ← exprs e c.l
  n ▸? v

-- `s.x = e`, where self's name is s, and a is self's attributes
abbrev pub assign_attribute : Word → ℕ → Word → Exprs → StmtVisit
assign_attribute s a x e c = do
  n ← definition x
  a ▸ n
  name s c.l
  v ← exprs e c.l
  n ▸? v

-- another `t.x = e`
abbrev pub assign_member : Primary → Word → Exprs → StmtVisit
assign_member t x e c = do
  chain (member x ∷ reverse (map postfix t.posts)) (atom t.atom) c.l
  exprs e c.l
  nothing

-- the bare name s, where it is self's name, with self's attributes
abbrev pub named_self : Atom-F Atom Postfix Expr Exprs Joined Operand Primary → Option (List ℕ × ℕ)
    → Option (Word × ℕ)
named_self (Atom-F.Name s) (Some self) = if bytes_eq s.text self.0 then Some (s, self.1) else None
named_self (Atom-F.Name s) None = None
named_self Atom-F.Number self = None
named_self Atom-F.Text self = None
named_self Atom-F.TrueWord self = None
named_self Atom-F.FalseWord self = None
named_self Atom-F.NoneWord self = None
named_self (Atom-F.Round es) self = None
named_self (Atom-F.Square es) self = None

-- self, where the primary is self's bare name
abbrev pub self_in : Primary → Option (List ℕ × ℕ) → Option (Word × ℕ)
self_in t self = if length t.posts == 0 then named_self (out-Atom t.atom) self else None

-- an assignment to a member of self, or of something else
abbrev pub assign_to : Option (Word × ℕ) → Primary → Word → Exprs → StmtVisit
assign_to (Some s) t x e = assign_attribute s.0 s.1 x e
assign_to None t x e = assign_member t x e

-- an assignment
abbrev pub assign : Target → Exprs → StmtVisit
assign (target.Name x) e c = assign_name x e c
assign (target.Member t x) e c = assign_to (self_in t c.self) t x e c

-- expressions
abbrev pub evaluate : Exprs → StmtVisit
evaluate es c = do
  exprs es c.l
  nothing

-- `r > v`, where r isn't none and v is a node
abbrev pub returned : Option ℕ → Option ℕ → Steps (Unit {0})
returned None v = nothing
returned (Some r) v = r ▸? v

-- `return` and `return e`
abbrev pub return_row : Option Exprs → StmtVisit
return_row None c = nothing
return_row (Some e) c = do
  v ← exprs e c.l
  returned c.r v

-- `if` and its `elif` parts
abbrev pub if_row : List StmtVisit → List StmtVisit → StmtVisit
if_row arms otherwise c = do
  suite arms c
  suite otherwise c

-- `while`
abbrev pub while_row : Expr → List StmtVisit → List StmtVisit → StmtVisit
while_row condition body otherwise c = do
  expr condition c.l
  suite body c
  suite otherwise c

-- what `for x in e` does before its blocks
abbrev pub for_head : Word → Exprs → StmtVisit
for_head x e c = do
  n ← definition x
  edge c.b n c.p
  exprs e c.l
  nothing

-- `for x in e`
abbrev pub for_row : Word → Exprs → List StmtVisit → List StmtVisit → StmtVisit
for_row x e body otherwise c = do
  for_head x e c
  suite body c
  suite otherwise c

-- a condition and its block
abbrev pub arm_row : Arm-F StmtVisit StmtVisit → StmtVisit
arm_row arm c = do
  expr arm.condition c.l
  suite arm.body c

-- one level of a statement, with the steps of the statements that it holds in place of them
abbrev pub stmt_row : Stmt-F StmtVisit StmtVisit → StmtVisit
stmt_row (Stmt-F.Import items) = suite (map import_item items)
stmt_row (Stmt-F.From d items) = from_items d items
stmt_row (Stmt-F.FromAll d) = from_all d
stmt_row (Stmt-F.Assign t e) = assign t e
stmt_row (Stmt-F.Evaluate es) = evaluate es
stmt_row (Stmt-F.Return e) = return_row e
stmt_row Stmt-F.Pass = suite []
stmt_row Stmt-F.Break = suite []
stmt_row Stmt-F.Continue = suite []
stmt_row (Stmt-F.If arms otherwise) = if_row arms otherwise
stmt_row (Stmt-F.While condition body otherwise) = while_row condition body otherwise
stmt_row (Stmt-F.For x e body otherwise) = for_row x e body otherwise
stmt_row (Stmt-F.Def f params body) = function f params body
stmt_row (Stmt-F.Class n supers body) = class n (map expr supers) body

-- whole statements
abbrev pub stmt : Stmt → StmtVisit
stmt = fold-Stmt StmtVisit StmtVisit stmt_row arm_row

-- whole arms
abbrev pub arm : Arm → StmtVisit
arm = fold-Arm StmtVisit StmtVisit stmt_row arm_row
