-- The grammar read with one token of lookahead, rule by rule.
use Rattle.std.specs.Prelude.{ℕ, zero, suc, Bool, true, false, ◌||◌, Option, Err}
use Rattle.std.specs.Option.{is_some}
use Rattle.py_subset.specs.declared.token.Mark.{Mark}
use Rattle.py_subset.specs.declared.token.Mark.TheVariants as m
use Rattle.py_subset.specs.declared.tree.BinOp.TheVariants as op
use Rattle.py_subset.specs.declared.tree.Atom.{Atom}
use Rattle.py_subset.specs.declared.tree.Atom.TheVariants as a
use Rattle.py_subset.specs.declared.tree.Postfix.{Postfix}
use Rattle.py_subset.specs.declared.tree.Primary.{Primary}
use Rattle.py_subset.specs.declared.tree.Operand.{Operand}
use Rattle.py_subset.specs.declared.tree.Joined.{Joined}
use Rattle.py_subset.specs.declared.tree.Expr.{Expr}
use Rattle.py_subset.specs.declared.tree.Exprs.{Exprs}
use Rattle.py_subset.specs.Marks.{same}
use Rattle.py_subset.specs.Trees as tree
use Rattle.py_subset.specs.Parsers.{Parser, marked, name, both, image, choice, opt, star, several, ◌▹◌, ◌◃◌}

-- the marks with which an expression begins
unfoldable pub begins_expr : Mark → Bool
begins_expr m.Name = true
begins_expr m.Number = true
begins_expr m.Text = true
begins_expr m.TrueWord = true
begins_expr m.FalseWord = true
begins_expr m.NoneWord = true
begins_expr m.OpenRound = true
begins_expr m.OpenSquare = true
begins_expr m.Not = true
begins_expr m.Minus = true
begins_expr m.Plus = true
begins_expr m.Tilde = true
begins_expr _ = false

-- whether a mark is this one
abbrev pub is : Mark → Mark → Bool
is mark other = same other mark

-- the marks of signs before an operand
abbrev pub begins_sign : Mark → Bool
begins_sign mark = is_some (tree.sign_of mark)

-- the marks with which an operator begins
unfoldable pub begins_joined : Mark → Bool
begins_joined mark = is_some (tree.op_of mark) || same mark m.Not || same mark m.Is

-- the marks with which a member or a call begins
unfoldable pub begins_postfix : Mark → Bool
begins_postfix mark = same mark m.Dot || same mark m.OpenRound

-- The number bounds the turns of each repetition.
module _ (turns : ℕ) (inner : Parser Exprs) where
  -- what stands in round brackets
  unfoldable pub in_round : Parser (Option Exprs)
  in_round = m.OpenRound ▹ (opt begins_expr inner ◃ m.CloseRound)

  -- what stands in square brackets
  unfoldable pub in_square : Parser (Option Exprs)
  in_square = m.OpenSquare ▹ (opt begins_expr inner ◃ m.CloseSquare)

  -- a name, what stands in brackets, or a constant
  unfoldable pub atom : Parser Atom
  atom = choice (is m.Name) (image a.Name name) (choice (is m.OpenRound) (image a.Round in_round)
      (choice (is m.OpenSquare) (image a.Square in_square) (marked tree.constant_of)))

  -- a member or a call
  unfoldable pub postfix : Parser Postfix
  postfix = choice (is m.Dot) (image tree.member_of (m.Dot ▹ name)) (image tree.call_of in_round)

  -- an atom with the members and calls after it
  unfoldable pub primary : Parser Primary
  primary = both tree.primary_of atom (star begins_postfix postfix turns)

  -- a primary with the signs before it
  unfoldable pub operand : Parser Operand
  operand = both tree.operand_of (star begins_sign (marked tree.sign_of) turns) primary

  -- `not in` and its operand
  unfoldable pub negated : Parser Joined
  negated = m.Not ▹ m.In ▹ image (tree.joined_of op.NotIn) operand

  -- `is` or `is not`, and its operand
  unfoldable pub compared : Parser Joined
  compared = m.Is ▹ choice (is m.Not) (m.Not ▹ image (tree.joined_of op.IsNot) operand)
      (image (tree.joined_of op.Is) operand)

  -- an operator and the operand after it
  unfoldable pub joined : Parser Joined
  joined = choice (is m.Not) negated (choice (is m.Is) compared
      (both tree.joined_of (marked tree.op_of) operand))

  -- operands with operators between
  unfoldable pub expr : Parser Expr
  expr = both tree.expr_of operand (star begins_joined joined turns)

  -- expressions with commas between
  unfoldable pub exprs_with : Parser Exprs
  exprs_with = image tree.exprs_of (several begins_expr expr turns)

-- with brackets nested no deeper than the second number
abbrev pub exprs : ℕ → ℕ → Parser Exprs
exprs turns zero ts = Err ts
exprs turns (suc depth) ts = exprs_with turns (exprs turns depth) ts
