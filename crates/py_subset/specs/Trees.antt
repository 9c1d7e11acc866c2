-- The trees that the rules make.
use Rattle.std.specs.Prelude.{◌-◌, Bool, not, ◌||◌, ◌==◌, if◌then◌else◌, List, [], ◌∷◌, take, length, slice_get, Option, Some, None}
use Rattle.py_subset.specs.declared.token.Mark.{Mark}
use Rattle.py_subset.specs.declared.token.Mark.TheVariants as m
use Rattle.py_subset.specs.declared.tree.Word.{Word}
use Rattle.py_subset.specs.declared.tree.Sign.{Sign}
use Rattle.py_subset.specs.declared.tree.Sign.TheVariants as sign
use Rattle.py_subset.specs.declared.tree.BinOp.{BinOp}
use Rattle.py_subset.specs.declared.tree.BinOp.TheVariants as op
use Rattle.py_subset.specs.declared.tree.Atom.{Atom, out-Atom}
use Rattle.py_subset.specs.declared.tree.Atom.TheOpen.{Atom-F, Postfix-F}
use Rattle.py_subset.specs.declared.tree.Atom.TheVariants as a
use Rattle.py_subset.specs.declared.tree.Postfix.{Postfix, out-Postfix}
use Rattle.py_subset.specs.declared.tree.Postfix.TheVariants as post
use Rattle.py_subset.specs.declared.tree.Primary.{Primary}
use Rattle.py_subset.specs.declared.tree.Operand.{Operand}
use Rattle.py_subset.specs.declared.tree.Joined.{Joined}
use Rattle.py_subset.specs.declared.tree.Expr.{Expr, roll-Expr, out-Expr}
use Rattle.py_subset.specs.declared.tree.Exprs.{Exprs, roll-Exprs, out-Exprs}
use Rattle.py_subset.specs.declared.tree.Target.{Target}
use Rattle.py_subset.specs.declared.tree.Target.TheVariants as target
use Rattle.py_subset.specs.declared.tree.ImportItem.{ImportItem}
use Rattle.py_subset.specs.declared.tree.FromItem.{FromItem}
use Rattle.py_subset.specs.declared.tree.Stmt.{Stmt}
use Rattle.py_subset.specs.declared.tree.Stmt.TheVariants as s
use Rattle.py_subset.specs.declared.tree.Arm.{Arm}

-- the signs before an operand
abbrev pub sign_of : Mark → Option Sign
sign_of m.Not = Some sign.Not
sign_of m.Minus = Some sign.Minus
sign_of m.Plus = Some sign.Plus
sign_of m.Tilde = Some sign.Invert
sign_of _ = None

-- the operators of one token but `is`
abbrev pub op_of : Mark → Option BinOp
op_of m.And = Some op.And
op_of m.Or = Some op.Or
op_of m.In = Some op.IsIn
op_of m.Plus = Some op.Add
op_of m.Minus = Some op.Sub
op_of m.Star = Some op.Mul
op_of m.Slash = Some op.Div
op_of m.DoubleSlash = Some op.FloorDiv
op_of m.Percent = Some op.Rem
op_of m.Power = Some op.Power
op_of m.Ampersand = Some op.BitAnd
op_of m.Bar = Some op.BitOr
op_of m.Caret = Some op.BitXor
op_of m.ShiftLeft = Some op.ShiftLeft
op_of m.ShiftRight = Some op.ShiftRight
op_of m.Less = Some op.Less
op_of m.Greater = Some op.Greater
op_of m.LessEqual = Some op.LessEqual
op_of m.GreaterEqual = Some op.GreaterEqual
op_of m.EqualEqual = Some op.Equal
op_of m.NotEqual = Some op.NotEqual
op_of _ = None

-- numbers, strings, and the three words that are constants
abbrev pub constant_of : Mark → Option Atom
constant_of m.Number = Some a.Number
constant_of m.Text = Some a.Text
constant_of m.TrueWord = Some a.TrueWord
constant_of m.FalseWord = Some a.FalseWord
constant_of m.NoneWord = Some a.NoneWord
constant_of _ = None

-- an atom with the members and calls after it
abbrev pub primary_of : Atom → List Postfix → Primary
primary_of atom posts = record { atom = atom; posts = posts }

-- a primary with the signs before it
abbrev pub operand_of : List Sign → Primary → Operand
operand_of signs primary = record { signs = signs; primary = primary }

-- an operator and the operand after it
abbrev pub joined_of : BinOp → Operand → Joined
joined_of operator operand = record { op = operator; operand = operand }

-- operands with operators between
abbrev pub expr_of : Operand → List Joined → Expr
expr_of first rest = roll-Expr (record { first = first; rest = rest })

-- expressions, and whether a comma stands at the end
abbrev pub exprs_of : List Expr × Bool → Exprs
exprs_of z = roll-Exprs (record { items = z.0; last_comma = z.1 })

-- a member
abbrev pub member_of : Word → Postfix
member_of word = post.Member word

-- the expressions of an argument list
abbrev pub items_of : Option Exprs → List Expr
items_of None = []
items_of (Some es) = (out-Exprs es).items

-- a call, with its arguments
abbrev pub call_of : Option Exprs → Postfix
call_of es = post.Call (items_of es)

-- Statements.
abbrev pub jump_of : Mark → Option Stmt
jump_of m.Pass = Some s.Pass
jump_of m.Break = Some s.Break
jump_of m.Continue = Some s.Continue
jump_of _ = None

-- an imported module with its alias
abbrev pub import_item : List Word → Option Word → ImportItem
import_item dotted alias = record { dotted = dotted; alias = alias }

-- an imported name with its alias
abbrev pub from_item : Word → Option Word → FromItem
from_item word alias = record { name = word; alias = alias }

-- All names, or these.
abbrev pub from_stmt : List Word → Option (List FromItem) → Stmt
from_stmt dotted None = s.FromAll dotted
from_stmt dotted (Some items) = s.From dotted items

-- no statements where there is no `else`
abbrev pub listed : {A : Type 0} → Option (List A) → List A
listed None = []
listed (Some xs) = xs

-- no names where there are none in the brackets
abbrev pub named : Option (List Word × Bool) → List Word
named None = []
named (Some z) = z.0

-- the bases of a class, whose brackets may be empty or left out
abbrev pub bases_of : Option (Option Exprs) → List Expr
bases_of None = []
bases_of (Some es) = items_of es

-- a condition and its block
abbrev pub arm_of : Expr → List Stmt → Arm
arm_of condition body = record { condition = condition; body = body }

-- What is assigned to: a name, or a member of a primary.
abbrev pub plain_target : Atom-F Atom Postfix Expr Exprs Joined Operand Primary → Option Target
plain_target (Atom-F.Name w) = Some (target.Name w)
plain_target Atom-F.Number = None
plain_target Atom-F.Text = None
plain_target Atom-F.TrueWord = None
plain_target Atom-F.FalseWord = None
plain_target Atom-F.NoneWord = None
plain_target (Atom-F.Round es) = None
plain_target (Atom-F.Square es) = None

-- a member at the end of a primary; the primary before it is what it is a member of
abbrev pub member_target : Atom → List Postfix
    → Postfix-F Atom Postfix Expr Exprs Joined Operand Primary → Option Target
member_target atom posts (Postfix-F.Member w) = Some (target.Member (primary_of atom posts) w)
member_target atom posts (Postfix-F.Call es) = None

-- a primary with nothing behind its atom, or with this last postfix
abbrev pub ended_target : Primary → Option Postfix → Option Target
ended_target p None = plain_target (out-Atom p.atom)
ended_target p (Some last) =
    member_target p.atom (take (length p.posts - 1) p.posts) (out-Postfix last)

-- the target that a primary is
unfoldable pub primary_target : Primary → Option Target
primary_target p = ended_target p (slice_get p.posts (length p.posts - 1))

-- the target that an operand is, which has no sign
abbrev pub operand_target : Operand → Option Target
operand_target o = if length o.signs == 0 then primary_target o.primary else None

-- the target that an expression is, which has no operator
abbrev pub expr_target : Option Expr → Option Target
expr_target None = None
expr_target (Some e) =
    if length (out-Expr e).rest == 0 then operand_target (out-Expr e).first else None

-- the target that these expressions are
unfoldable pub target_of : Exprs → Option Target
target_of es =
    if (out-Exprs es).last_comma || not (length (out-Exprs es).items == 1) then None
    else expr_target (slice_get (out-Exprs es).items (length (out-Exprs es).items - 1))

-- the first one and the others
abbrev pub cons : {A : Type 0} → A → List A → List A
cons x xs = x ∷ xs

-- both
abbrev pub pair : {A B : Type 0} → A → B → A × B
pair x y = (x, y)

-- a `while` of its condition and its blocks
abbrev pub while_of : Expr → List Stmt × List Stmt → Stmt
while_of condition z = s.While condition z.0 z.1

-- a `for` of its name, its items and its blocks
abbrev pub for_of : Word → Exprs × (List Stmt × List Stmt) → Stmt
for_of word z = s.For word z.0 z.1.0 z.1.1

-- a function of its name, its parameters and its block
abbrev pub def_of : Word → List Word × List Stmt → Stmt
def_of word z = s.Def word z.0 z.1

-- a class of its name, its bases and its block
abbrev pub class_of : Word → List Expr × List Stmt → Stmt
class_of word z = s.Class word z.0 z.1
