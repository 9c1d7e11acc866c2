-- Statements read with one token of lookahead, rule by rule.
use Rattle.std.specs.Prelude.{ℕ, zero, suc, Bool, true, false, if◌then◌else◌, List, [], ◌∷◌, Option, Some, None, Ok, Err}
use Rattle.std.specs.Option.{is_some}
use Rattle.py_subset.specs.declared.token.Mark.{Mark}
use Rattle.py_subset.specs.declared.token.Mark.TheVariants as m
use Rattle.py_subset.specs.declared.tree.Word.{Word}
use Rattle.py_subset.specs.declared.tree.Expr.{Expr}
use Rattle.py_subset.specs.declared.tree.Exprs.{Exprs}
use Rattle.py_subset.specs.declared.tree.Target.{Target}
use Rattle.py_subset.specs.declared.tree.ImportItem.{ImportItem}
use Rattle.py_subset.specs.declared.tree.FromItem.{FromItem}
use Rattle.py_subset.specs.declared.tree.Stmt.{Stmt}
use Rattle.py_subset.specs.declared.tree.Stmt.TheVariants as s
use Rattle.py_subset.specs.declared.tree.Arm.{Arm}
use Rattle.py_subset.specs.Marks.{same}
use Rattle.py_subset.specs.Language.{next}
use Rattle.py_subset.specs.Trees as tree
use Rattle.py_subset.specs.Parsing.{is, begins_expr, exprs, expr, in_round}
use Rattle.py_subset.specs.Parsers.{Parser, ◌>>=◌, marked, tok, name, both, image, choice, opt, star, several, ◌▹◌, ◌◃◌}

-- The number bounds the turns of each repetition, and how deeply brackets nest.
module _ (turns : ℕ) where
  -- names with dots between
  unfoldable pub dotted : Parser (List Word)
  dotted = both tree.cons name (star (is m.Dot) (m.Dot ▹ name) turns)

  -- `as` and a name, or none
  unfoldable pub alias : Parser (Option Word)
  alias = opt (is m.As) (m.As ▹ name)

  -- a module and its alias
  unfoldable pub modas : Parser ImportItem
  modas = both tree.import_item dotted alias

  -- modules with commas between
  unfoldable pub modas_list : Parser (List ImportItem)
  modas_list = both tree.cons modas (star (is m.Comma) (m.Comma ▹ modas) turns)

  -- `import ..`
  unfoldable pub import_stmt : Parser Stmt
  import_stmt = m.Import ▹ image s.Import modas_list

  -- an imported name and its alias
  unfoldable pub item : Parser FromItem
  item = both tree.from_item name alias

  -- imported names with commas between
  unfoldable pub items : Parser (List FromItem)
  items = both tree.cons item (star (is m.Comma) (m.Comma ▹ item) turns)

  -- imported names in brackets
  unfoldable pub enclosed : Parser (Option (List FromItem))
  enclosed = m.OpenRound ▹ (image (λ z. Some z.0) (several (is m.Name) item turns) ◃ m.CloseRound)

  -- all names, names in brackets, or names
  unfoldable pub imported : Parser (Option (List FromItem))
  imported = choice (is m.Star) (image (λ _. None) (tok m.Star))
      (choice (is m.OpenRound) enclosed (image Some items))

  -- `from ..`
  unfoldable pub from_stmt : Parser Stmt
  from_stmt = m.From ▹ both tree.from_stmt dotted (m.Import ▹ imported)

  -- expressions, however deeply their brackets nest
  abbrev pub some_exprs : Parser Exprs
  some_exprs = exprs turns turns

  -- what is assigned to a target, where there is one
  abbrev pub assigned : Option Target → Parser Stmt
  assigned None us = Err us
  assigned (Some t) us = (m.Assign ▹ image (s.Assign t) some_exprs) us

  -- an assignment, or expressions alone
  unfoldable pub assign : Parser Stmt
  assign ts = some_exprs ts >>= λ r. if same (next r.1) m.Assign
      then assigned (tree.target_of r.0) r.1 else Ok (s.Evaluate r.0, r.1)

  -- `return ..`
  unfoldable pub return_stmt : Parser Stmt
  return_stmt = m.Return ▹ image s.Return (opt begins_expr some_exprs)

  -- the marks of `pass`, `break` and `continue`
  unfoldable pub is_jump : Mark → Bool
  is_jump mark = is_some (tree.jump_of mark)

  -- a statement without blocks
  unfoldable pub simple : Parser Stmt
  simple = choice (is m.Import) import_stmt (choice (is m.From) from_stmt
      (choice (is m.Return) return_stmt (choice is_jump (marked tree.jump_of) assign)))

  -- a statement without blocks, and the end of its line
  unfoldable pub simple_line : Parser Stmt
  simple_line = simple ◃ m.Newline

  -- the condition of an `if` or `while`
  abbrev pub condition : Parser Expr
  condition = expr turns some_exprs

  -- the parameters of a function, in brackets
  unfoldable pub parameters : Parser (List Word)
  parameters = m.OpenRound
      ▹ (image tree.named (opt (is m.Name) (several (is m.Name) name turns)) ◃ m.CloseRound)

  -- the bases of a class, in brackets, or none
  unfoldable pub bases : Parser (List Expr)
  bases = image tree.bases_of (opt (is m.OpenRound) (in_round turns some_exprs))

-- the marks with which a statement begins: its first word, or those of an expression
unfoldable pub begins_stmt : Mark → Bool
begins_stmt m.Import = true
begins_stmt m.From = true
begins_stmt m.Return = true
begins_stmt m.Pass = true
begins_stmt m.Break = true
begins_stmt m.Continue = true
begins_stmt m.If = true
begins_stmt m.While = true
begins_stmt m.For = true
begins_stmt m.Def = true
begins_stmt m.Class = true
begins_stmt mark = begins_expr mark

-- what a block has between its INDENT and its DEDENT
module _ (turns : ℕ) (block : Parser (List Stmt)) where
  -- the block of a statement: on its line, or on lines of its own
  unfoldable pub suite : Parser (List Stmt)
  suite = choice (is m.Newline) (m.Newline ▹ m.Indent ▹ (block ◃ m.Dedent))
      (image (λ x. x ∷ []) (simple_line turns))

  -- the block behind `else`, empty where there is none
  unfoldable pub otherwise : Parser (List Stmt)
  otherwise = image tree.listed (opt (is m.Else) (m.Else ▹ m.Colon ▹ suite))

  -- the blocks of a loop
  unfoldable pub bodies : Parser (List Stmt × List Stmt)
  bodies = m.Colon ▹ both tree.pair suite otherwise

  -- a condition and its block
  unfoldable pub arm : Parser Arm
  arm = both tree.arm_of (condition turns) (m.Colon ▹ suite)

  -- all arms of an `if`
  unfoldable pub arms : Parser (List Arm)
  arms = both tree.cons arm (star (is m.Elif) (m.Elif ▹ arm) turns)

  -- `if ..`
  unfoldable pub if_stmt : Parser Stmt
  if_stmt = m.If ▹ both s.If arms otherwise

  -- `while ..`
  unfoldable pub while_stmt : Parser Stmt
  while_stmt = m.While ▹ both tree.while_of (condition turns) bodies

  -- `for ..`
  unfoldable pub for_stmt : Parser Stmt
  for_stmt = m.For ▹ both tree.for_of name (m.In ▹ both tree.pair (some_exprs turns) bodies)

  -- `def ..`
  unfoldable pub def_stmt : Parser Stmt
  def_stmt = m.Def ▹ both tree.def_of name (both tree.pair (parameters turns) (m.Colon ▹ suite))

  -- `class ..`
  unfoldable pub class_stmt : Parser Stmt
  class_stmt = m.Class ▹ both tree.class_of name (both tree.pair (bases turns) (m.Colon ▹ suite))

  -- a statement with its blocks
  unfoldable pub stmt : Parser Stmt
  stmt = choice (is m.If) if_stmt (choice (is m.While) while_stmt
      (choice (is m.For) for_stmt (choice (is m.Def) def_stmt
      (choice (is m.Class) class_stmt (simple_line turns)))))

  -- at least one statement
  unfoldable pub stmts : Parser (List Stmt)
  stmts = both tree.cons stmt (star begins_stmt stmt turns)

-- with blocks nested no deeper than the second number
abbrev pub block : ℕ → ℕ → Parser (List Stmt)
block turns zero ts = Err ts
block turns (suc depth) ts = stmts turns (block turns depth) ts

-- the statements of a module, and the tokens after them
abbrev pub module_of : ℕ → ℕ → Parser (List Stmt)
module_of turns depth = star begins_stmt (stmt turns (block turns depth)) turns
