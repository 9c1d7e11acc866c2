-- The grammar, a rule for each line.
use Rattle.std.specs.Prelude.{ℕ, zero, suc, List, [], ◌∷◌, Option, Some, None}
use Rattle.py_subset.specs.declared.token.Token.{Token}
use Rattle.py_subset.specs.declared.token.Mark.TheVariants as m
use Rattle.py_subset.specs.declared.tree.Word.{Word}
use Rattle.py_subset.specs.declared.tree.BinOp.TheVariants as op
use Rattle.py_subset.specs.declared.tree.Atom.{Atom}
use Rattle.py_subset.specs.declared.tree.Atom.TheVariants as a
use Rattle.py_subset.specs.declared.tree.Postfix.{Postfix}
use Rattle.py_subset.specs.declared.tree.Primary.{Primary}
use Rattle.py_subset.specs.declared.tree.Operand.{Operand}
use Rattle.py_subset.specs.declared.tree.Joined.{Joined}
use Rattle.py_subset.specs.declared.tree.Expr.{Expr}
use Rattle.py_subset.specs.declared.tree.Exprs.{Exprs}
use Rattle.py_subset.specs.declared.tree.Target.{Target}
use Rattle.py_subset.specs.declared.tree.ImportItem.{ImportItem}
use Rattle.py_subset.specs.declared.tree.FromItem.{FromItem}
use Rattle.py_subset.specs.declared.tree.Stmt.{Stmt}
use Rattle.py_subset.specs.declared.tree.Stmt.TheVariants as s
use Rattle.py_subset.specs.declared.tree.Arm.{Arm}
use Rattle.py_subset.specs.declared.tree.Module.{Module}
use Rattle.py_subset.specs.Language.{Language, marked, tok, name, both, image, either, star, opt, several, ◌▹◌, ◌◃◌, unless}
use Rattle.py_subset.specs.Chosen.{chosen}
use Rattle.py_subset.specs.Trees as tree

-- what may stand in brackets
module _ (inner : Language Exprs) where
  -- '(' [exprs] ')'
  abbrev pub in_round : Language (Option Exprs)
  in_round = m.OpenRound ▹ (opt inner ◃ m.CloseRound)

  -- '[' [exprs] ']'
  abbrev pub in_square : Language (Option Exprs)
  in_square = m.OpenSquare ▹ (opt inner ◃ m.CloseSquare)

  -- atom : NAME | '(' [exprs] ')' | '[' [exprs] ']' | NUMBER | STRING | 'True' | 'False' | 'None'
  abbrev pub atom : Language Atom
  atom = either (image a.Name name) (either (image a.Round in_round)
      (either (image a.Square in_square) (marked tree.constant_of)))

  -- '.' NAME | '(' [args] ')'
  abbrev pub postfix : Language Postfix
  postfix = either (image tree.member_of (m.Dot ▹ name)) (image tree.call_of in_round)

  -- primary : atom ('.' NAME | '(' [args] ')')*
  abbrev pub primary : Language Primary
  primary = both tree.primary_of atom (star postfix)

  -- operand : ('not' | '-' | '+' | '~')* primary
  abbrev pub operand : Language Operand
  operand = both tree.operand_of (star (marked tree.sign_of)) primary

  -- binop operand, where 'is' followed by 'not' is one operator
  abbrev pub joined : Language Joined
  joined = either (m.Not ▹ m.In ▹ image (tree.joined_of op.NotIn) operand)
      (either (m.Is ▹ either (m.Not ▹ image (tree.joined_of op.IsNot) operand)
      (unless m.Not (image (tree.joined_of op.Is) operand)))
      (both tree.joined_of (marked tree.op_of) operand))

  -- expr : operand (binop operand)*
  abbrev pub expr : Language Expr
  expr = both tree.expr_of operand (star joined)

  -- exprs : expr (',' expr)* [',']
  abbrev pub exprs_with : Language Exprs
  exprs_with = image tree.exprs_of (several expr)

-- with brackets nested less deeply than the number
abbrev pub exprs : ℕ → Language Exprs
exprs zero ts x us = ⊥
exprs (suc depth) ts x us = exprs_with (exprs depth) ts x us

-- dotted : NAME ('.' NAME)*
abbrev pub dotted : Language (List Word)
dotted = both tree.cons name (star (m.Dot ▹ name))

-- ['as' NAME]
abbrev pub alias : Language (Option Word)
alias = opt (m.As ▹ name)

-- modas : dotted ['as' NAME]
abbrev pub modas : Language ImportItem
modas = both tree.import_item dotted alias

-- import : 'import' modas (',' modas)*
abbrev pub import_stmt : Language Stmt
import_stmt = m.Import ▹ image s.Import (both tree.cons modas (star (m.Comma ▹ modas)))

-- item : NAME ['as' NAME]
abbrev pub item : Language FromItem
item = both tree.from_item name alias

-- items : item (',' item)*
abbrev pub items : Language (List FromItem)
items = both tree.cons item (star (m.Comma ▹ item))

-- '*' | '(' items [','] ')' | items
abbrev pub imported : Language (Option (List FromItem))
imported =
    either (image (λ _. None) (tok m.Star))
    (either (m.OpenRound ▹ (image (λ z. Some z.0) (several item) ◃ m.CloseRound))
    (image Some items))

-- from : 'from' dotted 'import' ('*' | items | '(' items [','] ')')
abbrev pub from_stmt : Language Stmt
from_stmt = m.From ▹ both tree.from_stmt dotted (m.Import ▹ imported)

-- The number bounds how deeply brackets nest.
module _ (depth : ℕ) where
  -- target : expressions that are a NAME alone or one primary '.' NAME
  abbrev pub target : Language Target
  target = chosen tree.target_of (exprs depth)

  -- assign : target '=' exprs | exprs
  abbrev pub assign : Language Stmt
  assign = either (both s.Assign target (m.Assign ▹ exprs depth)) (image s.Evaluate (exprs depth))

  -- return : 'return' [exprs]
  abbrev pub return_stmt : Language Stmt
  return_stmt = m.Return ▹ image s.Return (opt (exprs depth))

  -- simple : import | from | return | 'pass' | 'break' | 'continue' | assign
  abbrev pub simple : Language Stmt
  simple = either import_stmt (either from_stmt (either return_stmt
      (either (marked tree.jump_of) assign)))

  -- simple NEWLINE
  abbrev pub simple_line : Language Stmt
  simple_line = simple ◃ m.Newline

  -- expr
  abbrev pub condition : Language Expr
  condition = expr (exprs depth)

  -- '(' [NAME (',' NAME)* [',']] ')'
  abbrev pub parameters : Language (List Word)
  parameters = m.OpenRound ▹ (image tree.named (opt (several name)) ◃ m.CloseRound)

  -- ['(' [args] ')']
  abbrev pub bases : Language (List Expr)
  bases = image tree.bases_of (opt (in_round (exprs depth)))

-- what stands between INDENT and DEDENT
module _ (depth : ℕ) (block : Language (List Stmt)) where
  -- suite : NEWLINE INDENT stmt+ DEDENT | simple NEWLINE
  abbrev pub suite : Language (List Stmt)
  suite = either (m.Newline ▹ m.Indent ▹ (block ◃ m.Dedent))
      (image (λ x. x ∷ []) (simple_line depth))

  -- ['else' ':' suite]
  abbrev pub otherwise : Language (List Stmt)
  otherwise = image tree.listed (opt (m.Else ▹ m.Colon ▹ suite))

  -- ':' suite ['else' ':' suite]
  abbrev pub bodies : Language (List Stmt × List Stmt)
  bodies = m.Colon ▹ both tree.pair suite otherwise

  -- expr ':' suite
  abbrev pub arm : Language Arm
  arm = both tree.arm_of (condition depth) (m.Colon ▹ suite)

  -- if : 'if' expr ':' suite ('elif' expr ':' suite)* ['else' ':' suite]
  abbrev pub if_stmt : Language Stmt
  if_stmt = m.If ▹ both s.If (both tree.cons arm (star (m.Elif ▹ arm))) otherwise

  -- while : 'while' expr ':' suite ['else' ':' suite]
  abbrev pub while_stmt : Language Stmt
  while_stmt = m.While ▹ both tree.while_of (condition depth) bodies

  -- for : 'for' NAME 'in' exprs ':' suite ['else' ':' suite]
  abbrev pub for_stmt : Language Stmt
  for_stmt = m.For ▹ both tree.for_of name (m.In ▹ both tree.pair (exprs depth) bodies)

  -- def : 'def' NAME '(' [NAME (',' NAME)* [',']] ')' ':' suite
  abbrev pub def_stmt : Language Stmt
  def_stmt = m.Def ▹ both tree.def_of name (both tree.pair (parameters depth) (m.Colon ▹ suite))

  -- class : 'class' NAME ['(' [args] ')'] ':' suite
  abbrev pub class_stmt : Language Stmt
  class_stmt = m.Class ▹ both tree.class_of name (both tree.pair (bases depth) (m.Colon ▹ suite))

  -- stmt : if | while | for | def | class | simple NEWLINE
  abbrev pub stmt : Language Stmt
  stmt = either if_stmt (either while_stmt (either for_stmt (either def_stmt
      (either class_stmt (simple_line depth)))))

  -- stmt+
  abbrev pub stmts : Language (List Stmt)
  stmts = both tree.cons stmt (star stmt)

-- with blocks nested less deeply than the second number
abbrev pub block : ℕ → ℕ → Language (List Stmt)
block depth zero ts x us = ⊥
block depth (suc blocks) ts x us = stmts depth (block depth blocks) ts x us

-- module : stmt* END. The tokens, whose end is END, are those of the module, however deeply it nests.
abbrev pub Derives : List Token → Module → Type 0
Derives ts whole =
    (depth : ℕ) × (blocks : ℕ) × star (stmt depth (block depth blocks)) ts whole.body []
