-- Each reader reads what its rule says.
use Rattle.std.proofs.Common.{◌≡◌, ℕ, zero, suc, List, [], ◌∷◌, Ok, refl}
use Rattle.std.specs.Prelude.{Some, None}
use Rattle.py_subset.specs.declared.token.Token.{Token}
use Rattle.py_subset.specs.declared.token.Mark.TheVariants as m
use Rattle.py_subset.specs.declared.tree.BinOp.TheVariants as op
use Rattle.py_subset.specs.declared.tree.Atom.TheVariants as a
use Rattle.py_subset.specs.declared.tree.Exprs.{Exprs}
use Rattle.py_subset.specs.declared.tree.Stmt.{Stmt}
use Rattle.py_subset.specs.declared.tree.Stmt.TheVariants as s
use Rattle.py_subset.specs.Language.{Language, star}
use Rattle.py_subset.specs.Trees as tree
use Rattle.py_subset.specs.Parsers.{Parser}
use Rattle.py_subset.specs.Parsing as read
use Rattle.py_subset.specs.Statements as read_s
use Rattle.py_subset.specs.Grammar as rule
use Rattle.py_subset.proofs.Sound.{Sound, sound-marked, sound-tok, sound-name, sound-both, sound-before, sound-after, sound-image, sound-choice, sound-unless, sound-assigned, sound-opt, sound-star, sound-several}

module _ (turns : ℕ) (inner : Parser Exprs) (I : Language Exprs) (si : Sound inner I) where
  s-in_round : Sound (read.in_round turns inner) (rule.in_round I)
  unfolding read.in_round
  s-in_round = sound-before m.OpenRound refl (sound-after m.CloseRound refl (sound-opt read.begins_expr si))

  s-in_square : Sound (read.in_square turns inner) (rule.in_square I)
  unfolding read.in_square
  s-in_square = sound-before m.OpenSquare refl (sound-after m.CloseSquare refl (sound-opt read.begins_expr si))

  s-atom : Sound (read.atom turns inner) (rule.atom I)
  unfolding read.atom
  s-atom = sound-choice (read.is m.Name) (sound-image a.Name sound-name) (sound-choice (read.is m.OpenRound) (sound-image a.Round s-in_round)
      (sound-choice (read.is m.OpenSquare) (sound-image a.Square s-in_square) (sound-marked tree.constant_of refl)))

  s-postfix : Sound (read.postfix turns inner) (rule.postfix I)
  unfolding read.postfix
  s-postfix = sound-choice (read.is m.Dot) (sound-image tree.member_of (sound-before m.Dot refl sound-name)) (sound-image tree.call_of s-in_round)

  s-primary : Sound (read.primary turns inner) (rule.primary I)
  unfolding read.primary
  s-primary = sound-both tree.primary_of s-atom (sound-star read.begins_postfix turns s-postfix)

  s-operand : Sound (read.operand turns inner) (rule.operand I)
  unfolding read.operand
  s-operand = sound-both tree.operand_of (sound-star read.begins_sign turns (sound-marked tree.sign_of refl)) s-primary

  s-joined : Sound (read.joined turns inner) (rule.joined I)
  unfolding read.joined read.negated read.compared
  s-joined = sound-choice (read.is m.Not) (sound-before m.Not refl (sound-before m.In refl (sound-image (tree.joined_of op.NotIn) s-operand)))
      (sound-choice (read.is m.Is) (sound-before m.Is refl (sound-unless m.Not (sound-before m.Not refl (sound-image (tree.joined_of op.IsNot) s-operand)) (sound-image (tree.joined_of op.Is) s-operand)))
      (sound-both tree.joined_of (sound-marked tree.op_of refl) s-operand))

  pub s-expr : Sound (read.expr turns inner) (rule.expr I)
  unfolding read.expr
  s-expr = sound-both tree.expr_of s-operand (sound-star read.begins_joined turns s-joined)

  s-exprs_with : Sound (read.exprs_with turns inner) (rule.exprs_with I)
  unfolding read.exprs_with
  s-exprs_with = sound-image tree.exprs_of (sound-several read.begins_expr turns s-expr)

pub s-exprs : (turns depth : ℕ) → Sound (read.exprs turns depth) (rule.exprs depth)
s-exprs turns zero = record { holds = λ ts x us e. cc }
s-exprs turns (suc depth) = record { holds = λ ts x us e. (s-exprs_with turns (read.exprs turns depth) (rule.exprs depth) (s-exprs turns depth)).holds ts x us e }

module _ (turns : ℕ) where
  s-dotted : Sound (read_s.dotted turns) rule.dotted
  unfolding read_s.dotted
  s-dotted = sound-both tree.cons sound-name (sound-star (read.is m.Dot) turns (sound-before m.Dot refl sound-name))

  s-alias : Sound (read_s.alias turns) rule.alias
  unfolding read_s.alias
  s-alias = sound-opt (read.is m.As) (sound-before m.As refl sound-name)

  s-modas : Sound (read_s.modas turns) rule.modas
  unfolding read_s.modas
  s-modas = sound-both tree.import_item s-dotted s-alias

  s-import : Sound (read_s.import_stmt turns) rule.import_stmt
  unfolding read_s.import_stmt read_s.modas_list
  s-import = sound-before m.Import refl (sound-image s.Import (sound-both tree.cons s-modas (sound-star (read.is m.Comma) turns (sound-before m.Comma refl s-modas))))

  s-item : Sound (read_s.item turns) rule.item
  unfolding read_s.item
  s-item = sound-both tree.from_item sound-name s-alias

  s-items : Sound (read_s.items turns) rule.items
  unfolding read_s.items
  s-items = sound-both tree.cons s-item (sound-star (read.is m.Comma) turns (sound-before m.Comma refl s-item))

  s-imported : Sound (read_s.imported turns) rule.imported
  unfolding read_s.imported read_s.enclosed
  s-imported = sound-choice (read.is m.Star) (sound-image (λ _. None) (sound-tok m.Star refl))
      (sound-choice (read.is m.OpenRound) (sound-before m.OpenRound refl (sound-after m.CloseRound refl (sound-image (λ z. Some z.0) (sound-several (read.is m.Name) turns s-item)))) (sound-image Some s-items))

  s-from : Sound (read_s.from_stmt turns) rule.from_stmt
  unfolding read_s.from_stmt
  s-from = sound-before m.From refl (sound-both tree.from_stmt s-dotted (sound-before m.Import refl s-imported))

  s-assign : Sound (read_s.assign turns) (rule.assign turns)
  unfolding read_s.assign
  s-assign = sound-assigned tree.target_of s.Assign s.Evaluate (s-exprs turns turns)

  s-return : Sound (read_s.return_stmt turns) (rule.return_stmt turns)
  unfolding read_s.return_stmt
  s-return = sound-before m.Return refl (sound-image s.Return (sound-opt read.begins_expr (s-exprs turns turns)))

  s-simple : Sound (read_s.simple turns) (rule.simple turns)
  unfolding read_s.simple
  s-simple = sound-choice (read.is m.Import) s-import (sound-choice (read.is m.From) s-from (sound-choice (read.is m.Return) s-return
      (sound-choice (read_s.is_jump turns) (sound-marked tree.jump_of refl) s-assign)))

  s-line : Sound (read_s.simple_line turns) (rule.simple_line turns)
  unfolding read_s.simple_line
  s-line = sound-after m.Newline refl s-simple

  s-condition : Sound (read_s.condition turns) (rule.condition turns)
  s-condition = s-expr turns (read.exprs turns turns) (rule.exprs turns) (s-exprs turns turns)

  s-parameters : Sound (read_s.parameters turns) (rule.parameters turns)
  unfolding read_s.parameters
  s-parameters = sound-before m.OpenRound refl (sound-after m.CloseRound refl (sound-image tree.named (sound-opt (read.is m.Name) (sound-several (read.is m.Name) turns sound-name))))

  s-bases : Sound (read_s.bases turns) (rule.bases turns)
  unfolding read_s.bases
  s-bases = sound-image tree.bases_of (sound-opt (read.is m.OpenRound) (s-in_round turns (read.exprs turns turns) (rule.exprs turns) (s-exprs turns turns)))

module _ (turns : ℕ) (block : Parser (List Stmt)) (B : Language (List Stmt)) (sb : Sound block B) where
  s-suite : Sound (read_s.suite turns block) (rule.suite turns B)
  unfolding read_s.suite
  s-suite = sound-choice (read.is m.Newline) (sound-before m.Newline refl (sound-before m.Indent refl (sound-after m.Dedent refl sb))) (sound-image (λ x. x ∷ []) (s-line turns))

  s-otherwise : Sound (read_s.otherwise turns block) (rule.otherwise turns B)
  unfolding read_s.otherwise
  s-otherwise = sound-image tree.listed (sound-opt (read.is m.Else) (sound-before m.Else refl (sound-before m.Colon refl s-suite)))

  s-bodies : Sound (read_s.bodies turns block) (rule.bodies turns B)
  unfolding read_s.bodies
  s-bodies = sound-before m.Colon refl (sound-both tree.pair s-suite s-otherwise)

  s-arm : Sound (read_s.arm turns block) (rule.arm turns B)
  unfolding read_s.arm
  s-arm = sound-both tree.arm_of (s-condition turns) (sound-before m.Colon refl s-suite)

  s-if : Sound (read_s.if_stmt turns block) (rule.if_stmt turns B)
  unfolding read_s.if_stmt read_s.arms
  s-if = sound-before m.If refl (sound-both s.If (sound-both tree.cons s-arm (sound-star (read.is m.Elif) turns (sound-before m.Elif refl s-arm))) s-otherwise)

  s-while : Sound (read_s.while_stmt turns block) (rule.while_stmt turns B)
  unfolding read_s.while_stmt
  s-while = sound-before m.While refl (sound-both tree.while_of (s-condition turns) s-bodies)

  s-for : Sound (read_s.for_stmt turns block) (rule.for_stmt turns B)
  unfolding read_s.for_stmt
  s-for = sound-before m.For refl (sound-both tree.for_of sound-name (sound-before m.In refl (sound-both tree.pair (s-exprs turns turns) s-bodies)))

  s-def : Sound (read_s.def_stmt turns block) (rule.def_stmt turns B)
  unfolding read_s.def_stmt
  s-def = sound-before m.Def refl (sound-both tree.def_of sound-name (sound-both tree.pair (s-parameters turns) (sound-before m.Colon refl s-suite)))

  s-class : Sound (read_s.class_stmt turns block) (rule.class_stmt turns B)
  unfolding read_s.class_stmt
  s-class = sound-before m.Class refl (sound-both tree.class_of sound-name (sound-both tree.pair (s-bases turns) (sound-before m.Colon refl s-suite)))

  pub s-stmt : Sound (read_s.stmt turns block) (rule.stmt turns B)
  unfolding read_s.stmt
  s-stmt = sound-choice (read.is m.If) s-if (sound-choice (read.is m.While) s-while (sound-choice (read.is m.For) s-for (sound-choice (read.is m.Def) s-def
      (sound-choice (read.is m.Class) s-class (s-line turns)))))

  s-stmts : Sound (read_s.stmts turns block) (rule.stmts turns B)
  unfolding read_s.stmts
  s-stmts = sound-both tree.cons s-stmt (sound-star read_s.begins_stmt turns s-stmt)

pub s-block : (turns blocks : ℕ) → Sound (read_s.block turns blocks) (rule.block turns blocks)
s-block turns zero = record { holds = λ ts x us e. cc }
s-block turns (suc blocks) = record { holds = λ ts x us e. (s-stmts turns (read_s.block turns blocks) (rule.block turns blocks) (s-block turns blocks)).holds ts x us e }

-- the statements of a module
pub s-module : (turns blocks : ℕ) (ts us : List Token) (xs : List Stmt) → read_s.module_of turns blocks ts ≡ Ok (xs, us) → star (rule.stmt turns (rule.block turns blocks)) ts xs us
s-module turns blocks ts us xs e =
    (sound-star read_s.begins_stmt turns (s-stmt turns (read_s.block turns blocks) (rule.block turns blocks) (s-block turns blocks))).holds ts xs us e
