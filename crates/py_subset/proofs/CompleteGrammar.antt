-- Each rule is read.
use Rattle.std.proofs.Common.{◌≡◌, ℕ, ◌<◌, ◌≤◌, zero, suc, Bool, ◌||◌, List, [], ◌∷◌, length, Ok, refl, arith}
use Rattle.std.specs.Prelude.{Some, None}
use Rattle.std.specs.Option.{is_some}
use Rattle.py_subset.specs.declared.token.Token.{Token}
use Rattle.py_subset.specs.declared.token.Mark.{Mark}
use Rattle.py_subset.specs.declared.token.Mark.TheVariants as m
use Rattle.py_subset.specs.declared.tree.BinOp.TheVariants as op
use Rattle.py_subset.specs.declared.tree.Atom.TheVariants as a
use Rattle.py_subset.specs.declared.tree.Exprs.{Exprs}
use Rattle.py_subset.specs.declared.tree.Stmt.{Stmt}
use Rattle.py_subset.specs.declared.tree.Stmt.TheVariants as s
use Rattle.py_subset.specs.Marks.{same}
use Rattle.py_subset.specs.Language.{Language, star}
use Rattle.py_subset.specs.Trees as tree
use Rattle.py_subset.specs.Parsers.{Parser}
use Rattle.py_subset.specs.Parsing as read
use Rattle.py_subset.specs.Statements as read_s
use Rattle.py_subset.specs.Grammar as rule
use Rattle.py_subset.proofs.Complete.{Full, Maybe, none, is, full-tok, full-name, full-marked, full-image, maybe-image, full-before, maybe-before, full-inside, full-fewer, maybe-fewer, full-unless, full-assigned, within, fails, choose, then_full, then_maybe, maybe_then, optional, repeated, listed, closed, closed_maybe}

-- the marks that go on with a primary, an expression, several expressions
abbrev pub goes_primary : Mark → Bool
goes_primary = read.begins_postfix

abbrev pub goes_expr : Mark → Bool
goes_expr x = read.begins_joined x || read.begins_postfix x

abbrev pub goes_exprs : Mark → Bool
goes_exprs x = same x m.Comma || (read.begins_expr x || goes_expr x)

abbrev pub constants : Mark → Bool
constants x = is_some (tree.constant_of x)

abbrev pub square_or : Mark → Bool
square_or x = same x m.OpenSquare || constants x

abbrev pub round_or : Mark → Bool
round_or x = same x m.OpenRound || square_or x

abbrev pub begins_atom : Mark → Bool
begins_atom x = same x m.Name || round_or x

abbrev pub in_bracket : Mark → Bool
in_bracket x = read.begins_expr x || (same x m.CloseRound || same x m.CloseSquare)

abbrev pub plain_join : Mark → Bool
plain_join x = is_some (tree.op_of x)

abbrev pub is_or : Mark → Bool
is_or x = same x m.Is || plain_join x

abbrev pub not_or : Mark → Bool
not_or x = same x m.Not || read.begins_expr x

module _ (turns depth : ℕ) (few : suc depth ≤ turns) (inner : Parser Exprs) (I : Language Exprs) (fi : Full depth read.begins_expr goes_exprs inner I) where
  pub f-in_round : Full (suc depth) (is m.OpenRound) none (read.in_round turns inner) (rule.in_round I)
  unfolding read.in_round read.begins_expr read.begins_joined read.begins_postfix
  f-in_round = full-inside m.OpenRound (closed_maybe m.CloseRound in_bracket (optional read.begins_expr goes_exprs fi refl refl refl) refl refl refl)

  pub f-in_square : Full (suc depth) (is m.OpenSquare) none (read.in_square turns inner) (rule.in_square I)
  unfolding read.in_square read.begins_expr read.begins_joined read.begins_postfix
  f-in_square = full-inside m.OpenSquare (closed_maybe m.CloseSquare in_bracket (optional read.begins_expr goes_exprs fi refl refl refl) refl refl refl)

  pub f-atom : Full (suc depth) begins_atom none (read.atom turns inner) (rule.atom I)
  unfolding read.atom
  f-atom = choose (read.is m.Name) begins_atom none (full-image a.Name (full-name (suc depth)))
      (choose (read.is m.OpenRound) round_or none (full-image a.Round f-in_round)
      (choose (read.is m.OpenSquare) square_or none (full-image a.Square f-in_square) (full-marked (suc depth) tree.constant_of) refl refl refl refl refl refl) refl refl refl refl refl refl) refl refl refl refl refl refl

  pub f-postfix : Full (suc depth) read.begins_postfix none (read.postfix turns inner) (rule.postfix I)
  unfolding read.postfix read.begins_postfix
  f-postfix = choose (read.is m.Dot) read.begins_postfix none (full-image tree.member_of (full-before m.Dot (full-name (suc depth)))) (full-image tree.call_of f-in_round) refl refl refl refl refl refl

  pub f-primary : Full (suc depth) begins_atom goes_primary (read.primary turns inner) (rule.primary I)
  unfolding read.primary read.begins_postfix
  f-primary = then_maybe tree.primary_of f-atom (repeated read.begins_postfix turns goes_primary f-postfix few refl refl refl refl) refl refl

  pub f-operand : Full (suc depth) read.begins_expr goes_primary (read.operand turns inner) (rule.operand I)
  unfolding read.operand read.begins_expr read.begins_postfix
  f-operand = maybe_then tree.operand_of read.begins_expr (repeated read.begins_sign turns read.begins_sign (full-marked (suc depth) tree.sign_of) few refl refl refl refl) f-primary refl refl refl

  pub f-joined : Full (suc depth) read.begins_joined goes_primary (read.joined turns inner) (rule.joined I)
  unfolding read.joined read.negated read.compared read.begins_expr read.begins_joined read.begins_postfix
  f-joined = choose (read.is m.Not) read.begins_joined goes_primary (full-before m.Not (full-before m.In (full-image (tree.joined_of op.NotIn) f-operand)))
      (choose (read.is m.Is) is_or goes_primary
      (full-before m.Is (full-unless m.Not not_or (full-before m.Not (full-image (tree.joined_of op.IsNot) f-operand)) (full-image (tree.joined_of op.Is) f-operand) (λ x h. h) (within (is m.Not) not_or refl) (within read.begins_expr not_or refl)))
      (then_full tree.joined_of (full-marked (suc depth) tree.op_of) f-operand refl) refl refl refl refl refl refl) refl refl refl refl refl refl

  pub f-expr : Full (suc depth) read.begins_expr goes_expr (read.expr turns inner) (rule.expr I)
  unfolding read.expr read.begins_expr read.begins_joined read.begins_postfix
  f-expr = then_maybe tree.expr_of f-operand (repeated read.begins_joined turns goes_expr f-joined few refl refl refl refl) refl refl

  pub f-exprs_with : Full (suc depth) read.begins_expr goes_exprs (read.exprs_with turns inner) (rule.exprs_with I)
  unfolding read.exprs_with read.begins_expr read.begins_joined read.begins_postfix
  f-exprs_with = full-image tree.exprs_of (listed read.begins_expr turns goes_exprs f-expr few refl refl refl refl refl)

pub f-exprs : (turns depth nested : ℕ) → depth ≤ turns → 0 < turns → Full depth read.begins_expr goes_exprs (read.exprs turns depth) (rule.exprs nested)
f-exprs turns depth zero few some = record { reads = λ ts x us lt w stop. absurd w; first = λ ts x us w. absurd w; eats = λ ts x us w. absurd w }
f-exprs turns zero (suc nested) few some =
    let f = f-exprs_with turns zero (omega arith) (read.exprs turns zero) (rule.exprs nested) (f-exprs turns zero nested few some) in
    record { reads = λ ts x us lt w stop. absurd (omega arith); first = λ ts x us w. f.first ts x us w; eats = λ ts x us w. f.eats ts x us w }
f-exprs turns (suc depth) (suc nested) few some =
    let f = f-exprs_with turns depth few (read.exprs turns depth) (rule.exprs nested) (f-exprs turns depth nested (omega arith) some) in
    record { reads = λ ts x us lt w stop. f.reads ts x us lt w stop; first = λ ts x us w. f.first ts x us w; eats = λ ts x us w. f.eats ts x us w }

-- marks that go on with names and lists of them
abbrev pub goes_alias : Mark → Bool
goes_alias x = same x m.As || same x m.Dot

abbrev pub goes_list : Mark → Bool
goes_list x = same x m.Comma || goes_alias x

abbrev pub goes_items : Mark → Bool
goes_items x = same x m.Name || goes_list x

abbrev pub round_or_name : Mark → Bool
round_or_name x = same x m.OpenRound || same x m.Name

abbrev pub star_or : Mark → Bool
star_or x = same x m.Star || round_or_name x

abbrev pub goes_simple : Mark → Bool
goes_simple x = same x m.Assign || (same x m.As || goes_exprs x)

abbrev pub jumps : Mark → Bool
jumps x = is_some (tree.jump_of x)

abbrev pub jump_or : Mark → Bool
jump_or x = jumps x || read.begins_expr x

abbrev pub return_or : Mark → Bool
return_or x = same x m.Return || jump_or x

abbrev pub from_or : Mark → Bool
from_or x = same x m.From || return_or x

abbrev pub begins_simple : Mark → Bool
begins_simple x = same x m.Import || from_or x

abbrev pub goes_names : Mark → Bool
goes_names x = same x m.Comma || same x m.Name

abbrev pub name_or_close : Mark → Bool
name_or_close x = same x m.Name || same x m.CloseRound

module _ (less nested : ℕ) where
  pub f-some : Full (suc less) read.begins_expr goes_exprs (read.exprs (suc less) (suc less)) (rule.exprs nested)
  f-some = f-exprs (suc less) (suc less) nested (omega arith) (omega arith)

  pub f-dotted : Full (suc less) (is m.Name) (is m.Dot) (read_s.dotted (suc less)) rule.dotted
  unfolding read_s.dotted
  f-dotted = then_maybe tree.cons (full-name (suc less)) (repeated (read.is m.Dot) (suc less) (is m.Dot) (full-before m.Dot (full-name (suc less))) (omega arith) refl refl refl refl) refl refl

  pub f-alias : Maybe (suc less) (is m.As) goes_alias (read_s.alias (suc less)) rule.alias
  unfolding read_s.alias
  f-alias = optional (read.is m.As) goes_alias (full-before m.As (full-name (suc less))) refl refl refl

  pub f-modas : Full (suc less) (is m.Name) goes_alias (read_s.modas (suc less)) rule.modas
  unfolding read_s.modas
  f-modas = then_maybe tree.import_item f-dotted f-alias refl refl

  pub f-import : Full (suc less) (is m.Import) goes_list (read_s.import_stmt (suc less)) rule.import_stmt
  unfolding read_s.import_stmt read_s.modas_list
  f-import = full-before m.Import (full-image s.Import (then_maybe tree.cons f-modas (repeated (read.is m.Comma) (suc less) goes_list (full-before m.Comma f-modas) (omega arith) refl refl refl refl) refl refl))

  pub f-item : Full (suc less) (is m.Name) goes_alias (read_s.item (suc less)) rule.item
  unfolding read_s.item
  f-item = then_maybe tree.from_item (full-name (suc less)) f-alias refl refl

  pub f-items : Full (suc less) (is m.Name) goes_list (read_s.items (suc less)) rule.items
  unfolding read_s.items
  f-items = then_maybe tree.cons f-item (repeated (read.is m.Comma) (suc less) goes_list (full-before m.Comma f-item) (omega arith) refl refl refl refl) refl refl

  pub f-imported : Full (suc less) star_or goes_list (read_s.imported (suc less)) rule.imported
  unfolding read_s.imported read_s.enclosed
  f-imported = choose (read.is m.Star) star_or goes_list (full-image (λ _. None) (full-tok (suc less) m.Star))
      (choose (read.is m.OpenRound) round_or_name goes_list
      (full-before m.OpenRound (closed m.CloseRound (full-image (λ z. Some z.0) (listed (read.is m.Name) (suc less) goes_items f-item (omega arith) refl refl refl refl refl)) refl))
      (full-image Some f-items) refl refl refl refl refl refl) refl refl refl refl refl refl

  pub f-from : Full (suc less) (is m.From) goes_list (read_s.from_stmt (suc less)) rule.from_stmt
  unfolding read_s.from_stmt
  f-from = full-before m.From (then_full tree.from_stmt f-dotted (full-before m.Import f-imported) refl)

  pub f-assign : Full (suc less) read.begins_expr goes_simple (read_s.assign (suc less)) (rule.assign nested)
  unfolding read_s.assign read.begins_expr read.begins_joined read.begins_postfix
  f-assign = full-assigned tree.target_of s.Assign s.Evaluate goes_simple f-some refl (fails goes_simple goes_exprs refl) (fails goes_simple (is m.Assign) refl)

  pub f-return : Full (suc less) (is m.Return) goes_exprs (read_s.return_stmt (suc less)) (rule.return_stmt nested)
  unfolding read_s.return_stmt read.begins_expr read.begins_joined read.begins_postfix
  f-return = maybe-before m.Return (maybe-image s.Return (optional read.begins_expr goes_exprs f-some refl refl refl))

  pub f-simple : Full (suc less) begins_simple goes_simple (read_s.simple (suc less)) (rule.simple nested)
  unfolding read_s.simple read_s.is_jump read.begins_expr read.begins_joined read.begins_postfix
  f-simple = choose (read.is m.Import) begins_simple goes_simple f-import (choose (read.is m.From) from_or goes_simple f-from (choose (read.is m.Return) return_or goes_simple f-return
      (choose (read_s.is_jump (suc less)) jump_or goes_simple (full-marked (suc less) tree.jump_of) f-assign refl refl refl refl refl refl) refl refl refl refl refl refl) refl refl refl refl refl refl) refl refl refl refl refl refl

  pub f-line : Full (suc less) begins_simple none (read_s.simple_line (suc less)) (rule.simple_line nested)
  unfolding read_s.simple_line read.begins_expr read.begins_joined read.begins_postfix
  f-line = closed m.Newline f-simple refl

  pub f-condition : Full (suc less) read.begins_expr goes_expr (read_s.condition (suc less)) (rule.condition nested)
  f-condition = f-expr (suc less) less (omega arith) (read.exprs (suc less) (suc less)) (rule.exprs nested) (full-fewer less (omega arith) f-some)

  pub f-bases : Maybe (suc less) (is m.OpenRound) (is m.OpenRound) (read_s.bases (suc less)) (rule.bases nested)
  unfolding read_s.bases
  f-bases = maybe-image tree.bases_of (optional (read.is m.OpenRound) (is m.OpenRound) (f-in_round (suc less) less (omega arith) (read.exprs (suc less) (suc less)) (rule.exprs nested) (full-fewer less (omega arith) f-some)) refl refl refl)

  pub f-parameters : Full (suc less) (is m.OpenRound) none (read_s.parameters (suc less)) (rule.parameters nested)
  unfolding read_s.parameters
  f-parameters = full-before m.OpenRound (closed_maybe m.CloseRound name_or_close (maybe-image tree.named (optional (read.is m.Name) goes_names (listed (read.is m.Name) (suc less) goes_names (full-name (suc less)) (omega arith) refl refl refl refl refl) refl refl refl)) refl refl refl)

-- marks that go on with statements
abbrev pub goes_if : Mark → Bool
goes_if x = same x m.Else || same x m.Elif

abbrev pub goes_stmts : Mark → Bool
goes_stmts x = read_s.begins_stmt x || goes_if x

abbrev pub begins_suite : Mark → Bool
begins_suite x = same x m.Newline || begins_simple x

abbrev pub round_or_colon : Mark → Bool
round_or_colon x = same x m.OpenRound || same x m.Colon

abbrev pub class_or : Mark → Bool
class_or x = same x m.Class || begins_simple x

abbrev pub def_or : Mark → Bool
def_or x = same x m.Def || class_or x

abbrev pub for_or : Mark → Bool
for_or x = same x m.For || def_or x

abbrev pub while_or : Mark → Bool
while_or x = same x m.While || for_or x

module _ (less nested depth : ℕ) (few : suc depth ≤ suc less) (block : Parser (List Stmt)) (B : Language (List Stmt)) (fb : Full depth read_s.begins_stmt goes_stmts block B) where
  pub f-suite : Full (suc depth) begins_suite none (read_s.suite (suc less) block) (rule.suite nested B)
  unfolding read_s.suite read_s.begins_stmt read.begins_expr
  f-suite = choose (read.is m.Newline) begins_suite none (full-inside m.Newline (full-before m.Indent (closed m.Dedent fb refl))) (full-image (λ x. x ∷ []) (full-fewer (suc depth) few (f-line less nested))) refl refl refl refl refl refl

  pub f-otherwise : Maybe (suc depth) (is m.Else) goes_if (read_s.otherwise (suc less) block) (rule.otherwise nested B)
  unfolding read_s.otherwise
  f-otherwise = maybe-image tree.listed (optional (read.is m.Else) goes_if (full-before m.Else (full-before m.Colon f-suite)) refl refl refl)

  pub f-bodies : Full (suc depth) (is m.Colon) goes_if (read_s.bodies (suc less) block) (rule.bodies nested B)
  unfolding read_s.bodies
  f-bodies = full-before m.Colon (then_maybe tree.pair f-suite f-otherwise refl refl)

  pub f-arm : Full (suc depth) read.begins_expr none (read_s.arm (suc less) block) (rule.arm nested B)
  unfolding read_s.arm read.begins_joined read.begins_postfix
  f-arm = then_full tree.arm_of (full-fewer (suc depth) few (f-condition less nested)) (full-before m.Colon f-suite) refl

  pub f-if : Full (suc depth) (is m.If) goes_if (read_s.if_stmt (suc less) block) (rule.if_stmt nested B)
  unfolding read_s.if_stmt read_s.arms
  f-if = full-before m.If (then_maybe s.If (then_maybe tree.cons f-arm (repeated (read.is m.Elif) (suc less) (is m.Elif) (full-before m.Elif f-arm) few refl refl refl refl) refl refl) f-otherwise refl refl)

  pub f-while : Full (suc depth) (is m.While) goes_if (read_s.while_stmt (suc less) block) (rule.while_stmt nested B)
  unfolding read_s.while_stmt read.begins_joined read.begins_postfix
  f-while = full-before m.While (then_full tree.while_of (full-fewer (suc depth) few (f-condition less nested)) f-bodies refl)

  pub f-for : Full (suc depth) (is m.For) goes_if (read_s.for_stmt (suc less) block) (rule.for_stmt nested B)
  unfolding read_s.for_stmt read.begins_expr read.begins_joined read.begins_postfix
  f-for = full-before m.For (then_full tree.for_of (full-name (suc depth)) (full-before m.In (then_full tree.pair (full-fewer (suc depth) few (f-some less nested)) f-bodies refl)) refl)

  pub f-def : Full (suc depth) (is m.Def) none (read_s.def_stmt (suc less) block) (rule.def_stmt nested B)
  unfolding read_s.def_stmt
  f-def = full-before m.Def (then_full tree.def_of (full-name (suc depth)) (then_full tree.pair (full-fewer (suc depth) few (f-parameters less nested)) (full-before m.Colon f-suite) refl) refl)

  pub f-class : Full (suc depth) (is m.Class) none (read_s.class_stmt (suc less) block) (rule.class_stmt nested B)
  unfolding read_s.class_stmt
  f-class = full-before m.Class (then_full tree.class_of (full-name (suc depth)) (maybe_then tree.pair round_or_colon (maybe-fewer (suc depth) few (f-bases less nested)) (full-before m.Colon f-suite) refl refl refl) refl)

  pub f-stmt : Full (suc depth) read_s.begins_stmt goes_if (read_s.stmt (suc less) block) (rule.stmt nested B)
  unfolding read_s.stmt read_s.begins_stmt read.begins_expr
  f-stmt = choose (read.is m.If) read_s.begins_stmt goes_if f-if (choose (read.is m.While) while_or goes_if f-while (choose (read.is m.For) for_or goes_if f-for (choose (read.is m.Def) def_or goes_if f-def
      (choose (read.is m.Class) class_or goes_if f-class (full-fewer (suc depth) few (f-line less nested)) refl refl refl refl refl refl) refl refl refl refl refl refl) refl refl refl refl refl refl) refl refl refl refl refl refl) refl refl refl refl refl refl

  pub f-stmts : Full (suc depth) read_s.begins_stmt goes_stmts (read_s.stmts (suc less) block) (rule.stmts nested B)
  unfolding read_s.stmts read_s.begins_stmt read.begins_expr
  f-stmts = then_maybe tree.cons f-stmt (repeated read_s.begins_stmt (suc less) goes_stmts f-stmt few refl refl refl refl) refl refl

pub f-block : (less nested depth blocks : ℕ) → depth ≤ suc less → Full depth read_s.begins_stmt goes_stmts (read_s.block (suc less) depth) (rule.block nested blocks)
f-block less nested depth zero few = record { reads = λ ts x us lt w stop. absurd w; first = λ ts x us w. absurd w; eats = λ ts x us w. absurd w }
f-block less nested zero (suc blocks) few =
    let f = f-stmts less nested zero (omega arith) (read_s.block (suc less) zero) (rule.block nested blocks) (f-block less nested zero blocks few) in
    record { reads = λ ts x us lt w stop. absurd (omega arith); first = λ ts x us w. f.first ts x us w; eats = λ ts x us w. f.eats ts x us w }
f-block less nested (suc depth) (suc blocks) few =
    let f = f-stmts less nested depth few (read_s.block (suc less) depth) (rule.block nested blocks) (f-block less nested depth blocks (omega arith)) in
    record { reads = λ ts x us lt w stop. f.reads ts x us lt w stop; first = λ ts x us w. f.first ts x us w; eats = λ ts x us w. f.eats ts x us w }

-- The statements of a module that takes all tokens are read.
pub f-module : (less nested blocks : ℕ) (ts : List Token) (xs : List Stmt) → length ts < suc less → star (rule.stmt nested (rule.block nested blocks)) ts xs []
    → read_s.module_of (suc less) (suc less) ts ≡ Ok (xs, [])
unfolding read_s.begins_stmt read.begins_expr
f-module less nested blocks ts xs lt w =
    let f = f-stmt less nested less (omega arith) (read_s.block (suc less) (suc less)) (rule.block nested blocks) (full-fewer less (omega arith) (f-block less nested (suc less) blocks (omega arith))) in
    (repeated read_s.begins_stmt (suc less) goes_stmts f (omega arith) refl refl refl refl).reads ts xs [] lt w refl
