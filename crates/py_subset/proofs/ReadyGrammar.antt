-- The same rule by rule.
use Rattle.std.proofs.Common.{◌≡◌, ℕ, ◌<◌, ◌≤◌, zero, suc, true, List, [], ◌∷◌, refl, arith}
use Rattle.std.specs.Prelude.{Some, None}
use Rattle.py_subset.specs.declared.token.Mark.{Mark}
use Rattle.py_subset.specs.declared.token.Mark.TheVariants as m
use Rattle.py_subset.specs.declared.tree.BinOp.TheVariants as op
use Rattle.py_subset.specs.declared.tree.Atom.TheVariants as a
use Rattle.py_subset.specs.declared.tree.Exprs.{Exprs}
use Rattle.py_subset.specs.declared.tree.Stmt.{Stmt}
use Rattle.py_subset.specs.declared.tree.Stmt.TheVariants as s
use Rattle.py_subset.specs.Marks.{same}
use Rattle.py_subset.specs.Language.{Language, only, name, marked, star, image, several, ◌▹◌, ◌◃◌}
use Rattle.py_subset.specs.Layout.{token}
use Rattle.py_subset.specs.Trees as tree
use Rattle.py_subset.specs.Parsers.{Parser}
use Rattle.py_subset.specs.Parsing as read
use Rattle.py_subset.specs.Statements as read_s
use Rattle.py_subset.specs.Grammar as rule
use Rattle.py_subset.proofs.Complete.{Full, full-name, full-marked, full-before, full-fewer}
use Rattle.py_subset.proofs.CompleteGrammar.{goes_exprs, f-postfix, f-operand, f-joined, f-expr, f-exprs, f-modas, f-item, f-arm, f-stmt, f-block, goes_stmts}
use Rattle.py_subset.proofs.SoundGrammar.{s-exprs, s-block}
use Rattle.py_subset.proofs.Sound.{sound-tok, sound-before, sound-choice}
use Rattle.py_subset.proofs.Near.{near-void, near-if, near-inside, near-before}
use Rattle.py_subset.proofs.Viable.{Has, has-marked, has-tok, has-name, has-both, has-image, has-left, has-right, has-star, has-opt, has-several, ends-before, moves-either, moves-both, moves-marked}
use Rattle.py_subset.proofs.ViableLists.{HasOther}
use Rattle.py_subset.proofs.Ready.{Ready, ready-fewer, ready-marked, ready-tok, ready-name, ready-both, ready-before, ready-inside, ready-after, ready-image, ready-choice, ready-unless, ready-opt, ready-star, ready-several, ready-assigned, ends-choice-inside}

-- a token before and after
abbrev has-before : {A : Type 0} (mark : Mark) {L : Language A} → same mark mark ≡ true → Has L → Has (mark ▹ L)
has-before mark {L} e h = has-both (λ _ x. x) (has-tok mark e) h

abbrev has-after : {A : Type 0} (mark : Mark) {L : Language A} → same mark mark ≡ true → Has L → Has (L ◃ mark)
has-after mark {L} e h = has-both (λ x _. x) h (has-tok mark e)

-- Tokens of an expression: a name.
module _ (I : Language Exprs) where
  abbrev has-atom : Has (rule.atom I)
  has-atom = has-left (has-image a.Name has-name)

  abbrev has-primary : Has (rule.primary I)
  has-primary = has-both tree.primary_of has-atom (has-star (rule.postfix I))

  abbrev has-operand : Has (rule.operand I)
  has-operand = has-both tree.operand_of (has-star (marked tree.sign_of)) has-primary

  abbrev has-expr : Has (rule.expr I)
  has-expr = has-both tree.expr_of has-operand (has-star (rule.joined I))

  has-exprs_with : Has (rule.exprs_with I)
  has-exprs_with = has-image tree.exprs_of (has-several has-expr)

  other-operand : (L : Has (image (tree.joined_of op.Is) (rule.operand I))) → HasOther m.Not (image (tree.joined_of op.Is) (rule.operand I))
  other-operand L = let h = has-image (tree.joined_of op.Is) has-operand in record { t = token m.Name 0; w = []; x = h.x; other = refl; all = λ vs. h.all vs }

has-exprs : (depth : ℕ) → Has (rule.exprs (suc depth))
has-exprs depth = let h = has-exprs_with (rule.exprs depth) in record { w = h.w; x = h.x; all = λ vs. h.all vs }

module _ (turns turns' depth depth' : ℕ) (few : suc depth ≤ turns) (few' : suc depth' ≤ turns') (inner inner' : Parser Exprs) (I : Language Exprs)
    (fi : Full depth read.begins_expr goes_exprs inner I) (ri : Ready depth depth' inner inner' I) where
  r-in_round : Ready (suc depth) (suc depth') (read.in_round turns inner) (read.in_round turns' inner') (rule.in_round I)
  unfolding read.in_round
  r-in_round = ready-inside m.OpenRound refl refl (ready-after m.CloseRound refl refl (ready-opt read.begins_expr ri)) (has-after m.CloseRound refl (has-opt I))

  r-in_square : Ready (suc depth) (suc depth') (read.in_square turns inner) (read.in_square turns' inner') (rule.in_square I)
  unfolding read.in_square
  r-in_square = ready-inside m.OpenSquare refl refl (ready-after m.CloseSquare refl refl (ready-opt read.begins_expr ri)) (has-after m.CloseSquare refl (has-opt I))

  r-atom : Ready (suc depth) (suc depth') (read.atom turns inner) (read.atom turns' inner') (rule.atom I)
  unfolding read.atom
  r-atom = ready-choice (read.is m.Name) (ready-image a.Name ready-name) (ready-choice (read.is m.OpenRound) (ready-image a.Round r-in_round)
      (ready-choice (read.is m.OpenSquare) (ready-image a.Square r-in_square) (ready-marked tree.constant_of refl (has-marked tree.constant_of m.Number a.Number refl))))

  r-postfix : Ready (suc depth) (suc depth') (read.postfix turns inner) (read.postfix turns' inner') (rule.postfix I)
  unfolding read.postfix
  r-postfix = ready-choice (read.is m.Dot) (ready-image tree.member_of (ready-before m.Dot refl refl ready-name has-name)) (ready-image tree.call_of r-in_round)

  r-primary : Ready (suc depth) (suc depth') (read.primary turns inner) (read.primary turns' inner') (rule.primary I)
  unfolding read.primary
  r-primary = ready-both tree.primary_of r-atom (ready-star read.begins_postfix turns turns' few few' r-postfix (f-postfix turns depth few inner I fi).eats) (has-star (rule.postfix I))

  r-operand : Ready (suc depth) (suc depth') (read.operand turns inner) (read.operand turns' inner') (rule.operand I)
  unfolding read.operand
  r-operand = ready-both tree.operand_of
      (ready-star read.begins_sign turns turns' few few' (ready-marked tree.sign_of refl (has-marked tree.sign_of m.Not _ refl)) (full-marked (suc depth) tree.sign_of).eats) r-primary (has-primary I)

  r-joined : Ready (suc depth) (suc depth') (read.joined turns inner) (read.joined turns' inner') (rule.joined I)
  unfolding read.joined read.negated read.compared
  r-joined = ready-choice (read.is m.Not)
      (ready-before m.Not refl refl (ready-before m.In refl refl (ready-image (tree.joined_of op.NotIn) r-operand) (has-image (tree.joined_of op.NotIn) (has-operand I))) (has-before m.In refl (has-image (tree.joined_of op.NotIn) (has-operand I))))
      (ready-choice (read.is m.Is)
      (ready-before m.Is refl refl (ready-unless m.Not
      (ready-before m.Not refl refl (ready-image (tree.joined_of op.IsNot) r-operand) (has-image (tree.joined_of op.IsNot) (has-operand I))) (ready-image (tree.joined_of op.Is) r-operand)
      (λ ts x us w. (f-operand turns depth few inner I fi).eats ts w.0 us w.1) (other-operand I (has-image (tree.joined_of op.Is) (has-operand I))))
      (has-left (has-before m.Not refl (has-image (tree.joined_of op.IsNot) (has-operand I)))))
      (ready-both tree.joined_of (ready-marked tree.op_of refl (has-marked tree.op_of m.And op.And refl)) r-operand (has-operand I)))

  pub r-expr : Ready (suc depth) (suc depth') (read.expr turns inner) (read.expr turns' inner') (rule.expr I)
  unfolding read.expr
  r-expr = ready-both tree.expr_of r-operand (ready-star read.begins_joined turns turns' few few' r-joined (f-joined turns depth few inner I fi).eats) (has-star (rule.joined I))

  pub r-exprs_with : Ready (suc depth) (suc depth') (read.exprs_with turns inner) (read.exprs_with turns' inner') (rule.exprs_with I)
  unfolding read.exprs_with
  r-exprs_with = ready-image tree.exprs_of (ready-several read.begins_expr turns turns' few few' r-expr (f-expr turns depth few inner I fi).eats)

-- with brackets nested less deeply than a number
exprs-step : (turns turns' depth depth' : ℕ) → suc depth ≤ turns → suc depth' ≤ turns' → Ready depth depth' (read.exprs turns depth) (read.exprs turns' depth') (rule.exprs depth)
    → Ready (suc depth) (suc depth') (read.exprs turns (suc depth)) (read.exprs turns' (suc depth')) (rule.exprs (suc depth))
exprs-step turns turns' depth depth' few few' ri =
    let r = r-exprs_with turns turns' depth depth' few few' (read.exprs turns depth) (read.exprs turns' depth') (rule.exprs depth) (f-exprs turns depth depth (omega arith) (omega arith)) ri in
    record {
      near = record { near = λ ts lt. r.near.near ts lt };
      sound = record { holds = λ ts x us e. r.sound.holds ts x us e };
      moves = record { moves = λ ts x us w. let v = r.moves.moves ts x us w in record { b = v.b; is = v.is; all = λ vs. v.all vs } };
      ends = record { ends = λ ts us lt e. let v = r.ends.ends ts us lt e in record { b = v.b; more = v.more; x = v.x; is = v.is; all = λ vs. v.all vs } };
    }

pub r-exprs : (turns turns' depth depth' : ℕ) → depth ≤ turns → depth' ≤ turns' → Ready depth depth' (read.exprs turns depth) (read.exprs turns' depth') (rule.exprs depth)
r-exprs turns turns' zero depth' few few' = record {
  near = record { near = λ ts lt. absurd (omega arith) };
  sound = s-exprs turns zero;
  moves = record { moves = λ ts x us w. absurd w };
  ends = record { ends = λ ts us lt e. absurd (omega arith) };
}
r-exprs turns turns' (suc depth) zero few few' =
    let r = exprs-step turns 1 depth 0 few (omega arith) (r-exprs turns 1 depth 0 (omega arith) (omega arith)) in
    record { near = near-void 0 (read.exprs turns' zero) (omega arith) r.near; sound = r.sound; moves = r.moves; ends = r.ends }
r-exprs turns turns' (suc depth) (suc depth') few few' = exprs-step turns turns' depth depth' few few' (r-exprs turns turns' depth depth' (omega arith) (omega arith))

abbrev has-dotted : Has rule.dotted
has-dotted = has-both tree.cons has-name (has-star (m.Dot ▹ name))

abbrev has-alias : Has rule.alias
has-alias = has-opt (m.As ▹ name)

abbrev has-modas : Has rule.modas
has-modas = has-both tree.import_item has-dotted has-alias

abbrev has-item : Has rule.item
has-item = has-both tree.from_item has-name has-alias

abbrev has-imported : Has rule.imported
has-imported = has-left (has-image (λ _. None) (has-tok m.Star refl))

module _ (depth : ℕ) where
  has-simple : Has (rule.simple depth)
  has-simple = has-right (has-right (has-right (has-left (has-marked tree.jump_of m.Pass s.Pass refl))))

  has-line : Has (rule.simple_line depth)
  has-line = has-after m.Newline refl has-simple

  has-parameters : Has (rule.parameters depth)
  has-parameters = has-before m.OpenRound refl (has-after m.CloseRound refl (has-image tree.named (has-opt (several name))))

  has-bases : Has (rule.bases depth)
  has-bases = has-image tree.bases_of (has-opt (rule.in_round (rule.exprs depth)))

  module _ (B : Language (List Stmt)) where
    has-suite : Has (rule.suite depth B)
    has-suite = has-right (has-image (λ x. x ∷ []) has-line)

    has-colon : Has (m.Colon ▹ rule.suite depth B)
    has-colon = has-before m.Colon refl has-suite

    has-otherwise : Has (rule.otherwise depth B)
    has-otherwise = has-image tree.listed (has-opt (m.Else ▹ m.Colon ▹ rule.suite depth B))

    has-bodies : Has (rule.bodies depth B)
    has-bodies = has-before m.Colon refl (has-both tree.pair has-suite has-otherwise)

    has-arm : Has (rule.arm depth B)
    has-arm = has-both tree.arm_of (has-expr (rule.exprs depth)) has-colon

    has-stmt : Has (rule.stmt depth B)
    has-stmt = has-right (has-right (has-right (has-right (has-right has-line))))

    has-stmts : Has (rule.stmts depth B)
    has-stmts = has-both tree.cons has-stmt (has-star (rule.stmt depth B))

has-block : (depth blocks : ℕ) → 0 < blocks → Has (rule.block depth blocks)
has-block depth zero pos = absurd (omega arith)
has-block depth (suc blocks) pos = let h = has-stmts depth (rule.block depth blocks) in record { w = h.w; x = h.x; all = λ vs. h.all vs }

module _ (less less' : ℕ) where
  r-some : Ready (suc less) (suc less') (read.exprs (suc less) (suc less)) (read.exprs (suc less') (suc less')) (rule.exprs (suc less))
  r-some = r-exprs (suc less) (suc less') (suc less) (suc less') (omega arith) (omega arith)

  r-dotted : Ready (suc less) (suc less') (read_s.dotted (suc less)) (read_s.dotted (suc less')) rule.dotted
  unfolding read_s.dotted
  r-dotted = ready-both tree.cons ready-name (ready-star (read.is m.Dot) (suc less) (suc less') (omega arith) (omega arith) (ready-before m.Dot refl refl ready-name has-name) (full-before m.Dot (full-name less)).eats) (has-star (m.Dot ▹ name))

  r-alias : Ready (suc less) (suc less') (read_s.alias (suc less)) (read_s.alias (suc less')) rule.alias
  unfolding read_s.alias
  r-alias = ready-opt (read.is m.As) (ready-before m.As refl refl ready-name has-name)

  r-modas : Ready (suc less) (suc less') (read_s.modas (suc less)) (read_s.modas (suc less')) rule.modas
  unfolding read_s.modas
  r-modas = ready-both tree.import_item r-dotted r-alias has-alias

  r-import : Ready (suc less) (suc less') (read_s.import_stmt (suc less)) (read_s.import_stmt (suc less')) rule.import_stmt
  unfolding read_s.import_stmt read_s.modas_list
  r-import = ready-before m.Import refl refl (ready-image s.Import (ready-both tree.cons r-modas
      (ready-star (read.is m.Comma) (suc less) (suc less') (omega arith) (omega arith) (ready-before m.Comma refl refl r-modas has-modas) (full-before m.Comma (f-modas less less)).eats) (has-star (m.Comma ▹ rule.modas))))
      (has-image s.Import (has-both tree.cons has-modas (has-star (m.Comma ▹ rule.modas))))

  r-item : Ready (suc less) (suc less') (read_s.item (suc less)) (read_s.item (suc less')) rule.item
  unfolding read_s.item
  r-item = ready-both tree.from_item ready-name r-alias has-alias

  r-items : Ready (suc less) (suc less') (read_s.items (suc less)) (read_s.items (suc less')) rule.items
  unfolding read_s.items
  r-items = ready-both tree.cons r-item
      (ready-star (read.is m.Comma) (suc less) (suc less') (omega arith) (omega arith) (ready-before m.Comma refl refl r-item has-item) (full-before m.Comma (f-item less less)).eats) (has-star (m.Comma ▹ rule.item))

  r-imported : Ready (suc less) (suc less') (read_s.imported (suc less)) (read_s.imported (suc less')) rule.imported
  unfolding read_s.imported read_s.enclosed
  r-imported = ready-choice (read.is m.Star) (ready-image (λ _. None) (ready-tok m.Star refl refl))
      (ready-choice (read.is m.OpenRound)
      (ready-before m.OpenRound refl refl (ready-after m.CloseRound refl refl (ready-image (λ z. Some z.0) (ready-several (read.is m.Name) (suc less) (suc less') (omega arith) (omega arith) r-item (f-item less less).eats)))
      (has-after m.CloseRound refl (has-image (λ z. Some z.0) (has-several has-item)))) (ready-image Some r-items))

  r-from : Ready (suc less) (suc less') (read_s.from_stmt (suc less)) (read_s.from_stmt (suc less')) rule.from_stmt
  unfolding read_s.from_stmt
  r-from = ready-before m.From refl refl (ready-both tree.from_stmt r-dotted (ready-before m.Import refl refl r-imported has-imported) (has-before m.Import refl has-imported))
      (has-both tree.from_stmt has-dotted (has-before m.Import refl has-imported))

  r-assign : Ready (suc less) (suc less') (read_s.assign (suc less)) (read_s.assign (suc less')) (rule.assign (suc less))
  unfolding read_s.assign
  r-assign = ready-assigned tree.target_of s.Assign s.Evaluate r-some (has-exprs less)

  r-return : Ready (suc less) (suc less') (read_s.return_stmt (suc less)) (read_s.return_stmt (suc less')) (rule.return_stmt (suc less))
  unfolding read_s.return_stmt
  r-return = ready-before m.Return refl refl (ready-image s.Return (ready-opt read.begins_expr r-some)) (has-image s.Return (has-opt (rule.exprs (suc less))))

  r-simple : Ready (suc less) (suc less') (read_s.simple (suc less)) (read_s.simple (suc less')) (rule.simple (suc less))
  unfolding read_s.simple read_s.is_jump
  r-simple = ready-choice (read.is m.Import) r-import (ready-choice (read.is m.From) r-from (ready-choice (read.is m.Return) r-return
      (ready-choice (read_s.is_jump (suc less)) (ready-marked tree.jump_of refl (has-marked tree.jump_of m.Pass s.Pass refl)) r-assign)))

  r-line : Ready (suc less) (suc less') (read_s.simple_line (suc less)) (read_s.simple_line (suc less')) (rule.simple_line (suc less))
  unfolding read_s.simple_line
  r-line = ready-after m.Newline refl refl r-simple

  r-condition : Ready (suc less) (suc less') (read_s.condition (suc less)) (read_s.condition (suc less')) (rule.condition (suc less))
  r-condition = r-expr (suc less) (suc less') less less' (omega arith) (omega arith) (read.exprs (suc less) (suc less)) (read.exprs (suc less') (suc less')) (rule.exprs (suc less))
      (full-fewer less (omega arith) (f-exprs (suc less) (suc less) (suc less) (omega arith) (omega arith))) (ready-fewer less less' (omega arith) (omega arith) r-some)

  r-bases : Ready (suc less) (suc less') (read_s.bases (suc less)) (read_s.bases (suc less')) (rule.bases (suc less))
  unfolding read_s.bases
  r-bases = ready-image tree.bases_of (ready-opt (read.is m.OpenRound) (r-in_round (suc less) (suc less') less less' (omega arith) (omega arith) (read.exprs (suc less) (suc less)) (read.exprs (suc less') (suc less')) (rule.exprs (suc less))
      (full-fewer less (omega arith) (f-exprs (suc less) (suc less) (suc less) (omega arith) (omega arith))) (ready-fewer less less' (omega arith) (omega arith) r-some)))

  r-parameters : Ready (suc less) (suc less') (read_s.parameters (suc less)) (read_s.parameters (suc less')) (rule.parameters (suc less))
  unfolding read_s.parameters
  r-parameters = ready-before m.OpenRound refl refl (ready-after m.CloseRound refl refl (ready-image tree.named (ready-opt (read.is m.Name) (ready-several (read.is m.Name) (suc less) (suc less') (omega arith) (omega arith) ready-name (full-name less).eats))))
      (has-after m.CloseRound refl (has-image tree.named (has-opt (several name))))

module _ (less less' depth depth' : ℕ) (few : suc depth ≤ suc less) (few' : suc depth' ≤ suc less') (block block' : Parser (List Stmt)) (B : Language (List Stmt))
    (fb : Full depth read_s.begins_stmt goes_stmts block B) (hb : 0 < depth → Has B) (rb : Ready depth depth' block block' B) where
  r-suite : Ready (suc depth) (suc depth') (read_s.suite (suc less) block) (read_s.suite (suc less') block') (rule.suite (suc less) B)
  unfolding read_s.suite
  r-suite =
      let line = ready-image (λ x. x ∷ []) (ready-fewer (suc depth) (suc depth') few few' (r-line less less')) in
      let lines = ready-after m.Dedent refl refl rb in
      record {
        near = near-if (read.is m.Newline) (near-inside m.Newline refl (near-before m.Indent lines.near)) line.near;
        sound = sound-choice (read.is m.Newline) (sound-before m.Newline refl (sound-before m.Indent refl lines.sound)) line.sound;
        moves = moves-either (moves-both (λ _ x. x) (moves-marked (only m.Newline)) (moves-both (λ _ x. x) (moves-marked (only m.Indent)) lines.moves)) line.moves;
        ends = ends-choice-inside m.Newline refl (λ pos. ends-before m.Indent (sound-tok m.Indent refl) (has-tok m.Indent refl) lines.ends (has-after m.Dedent refl (hb pos))) line.ends;
      }

  r-otherwise : Ready (suc depth) (suc depth') (read_s.otherwise (suc less) block) (read_s.otherwise (suc less') block') (rule.otherwise (suc less) B)
  unfolding read_s.otherwise
  r-otherwise = ready-image tree.listed (ready-opt (read.is m.Else) (ready-before m.Else refl refl (ready-before m.Colon refl refl r-suite (has-suite (suc less) B)) (has-colon (suc less) B)))

  r-bodies : Ready (suc depth) (suc depth') (read_s.bodies (suc less) block) (read_s.bodies (suc less') block') (rule.bodies (suc less) B)
  unfolding read_s.bodies
  r-bodies = ready-before m.Colon refl refl (ready-both tree.pair r-suite r-otherwise (has-otherwise (suc less) B)) (has-both tree.pair (has-suite (suc less) B) (has-otherwise (suc less) B))

  r-arm : Ready (suc depth) (suc depth') (read_s.arm (suc less) block) (read_s.arm (suc less') block') (rule.arm (suc less) B)
  unfolding read_s.arm
  r-arm = ready-both tree.arm_of (ready-fewer (suc depth) (suc depth') few few' (r-condition less less')) (ready-before m.Colon refl refl r-suite (has-suite (suc less) B)) (has-colon (suc less) B)

  r-if : Ready (suc depth) (suc depth') (read_s.if_stmt (suc less) block) (read_s.if_stmt (suc less') block') (rule.if_stmt (suc less) B)
  unfolding read_s.if_stmt read_s.arms
  r-if = ready-before m.If refl refl (ready-both s.If (ready-both tree.cons r-arm
      (ready-star (read.is m.Elif) (suc less) (suc less') few few' (ready-before m.Elif refl refl r-arm (has-arm (suc less) B)) (full-before m.Elif (f-arm less (suc less) depth few block B fb)).eats)
      (has-star (m.Elif ▹ rule.arm (suc less) B))) r-otherwise (has-otherwise (suc less) B))
      (has-both s.If (has-both tree.cons (has-arm (suc less) B) (has-star (m.Elif ▹ rule.arm (suc less) B))) (has-otherwise (suc less) B))

  r-while : Ready (suc depth) (suc depth') (read_s.while_stmt (suc less) block) (read_s.while_stmt (suc less') block') (rule.while_stmt (suc less) B)
  unfolding read_s.while_stmt
  r-while = ready-before m.While refl refl (ready-both tree.while_of (ready-fewer (suc depth) (suc depth') few few' (r-condition less less')) r-bodies (has-bodies (suc less) B))
      (has-both tree.while_of (has-expr (rule.exprs (suc less))) (has-bodies (suc less) B))

  r-for : Ready (suc depth) (suc depth') (read_s.for_stmt (suc less) block) (read_s.for_stmt (suc less') block') (rule.for_stmt (suc less) B)
  unfolding read_s.for_stmt
  r-for =
      let tail = has-both tree.pair (has-exprs less) (has-bodies (suc less) B) in
      ready-before m.For refl refl (ready-both tree.for_of ready-name
      (ready-before m.In refl refl (ready-both tree.pair (ready-fewer (suc depth) (suc depth') few few' (r-some less less')) r-bodies (has-bodies (suc less) B)) tail) (has-before m.In refl tail))
      (has-both tree.for_of has-name (has-before m.In refl tail))

  r-def : Ready (suc depth) (suc depth') (read_s.def_stmt (suc less) block) (read_s.def_stmt (suc less') block') (rule.def_stmt (suc less) B)
  unfolding read_s.def_stmt
  r-def =
      let tail = has-both tree.pair (has-parameters (suc less)) (has-colon (suc less) B) in
      ready-before m.Def refl refl (ready-both tree.def_of ready-name
      (ready-both tree.pair (ready-fewer (suc depth) (suc depth') few few' (r-parameters less less')) (ready-before m.Colon refl refl r-suite (has-suite (suc less) B)) (has-colon (suc less) B)) tail)
      (has-both tree.def_of has-name tail)

  r-class : Ready (suc depth) (suc depth') (read_s.class_stmt (suc less) block) (read_s.class_stmt (suc less') block') (rule.class_stmt (suc less) B)
  unfolding read_s.class_stmt
  r-class =
      let tail = has-both tree.pair (has-bases (suc less)) (has-colon (suc less) B) in
      ready-before m.Class refl refl (ready-both tree.class_of ready-name
      (ready-both tree.pair (ready-fewer (suc depth) (suc depth') few few' (r-bases less less')) (ready-before m.Colon refl refl r-suite (has-suite (suc less) B)) (has-colon (suc less) B)) tail)
      (has-both tree.class_of has-name tail)

  pub r-stmt : Ready (suc depth) (suc depth') (read_s.stmt (suc less) block) (read_s.stmt (suc less') block') (rule.stmt (suc less) B)
  unfolding read_s.stmt
  r-stmt = ready-choice (read.is m.If) r-if (ready-choice (read.is m.While) r-while (ready-choice (read.is m.For) r-for (ready-choice (read.is m.Def) r-def
      (ready-choice (read.is m.Class) r-class (ready-fewer (suc depth) (suc depth') few few' (r-line less less'))))))

  pub r-stmts : Ready (suc depth) (suc depth') (read_s.stmts (suc less) block) (read_s.stmts (suc less') block') (rule.stmts (suc less) B)
  unfolding read_s.stmts
  r-stmts = ready-both tree.cons r-stmt (ready-star read_s.begins_stmt (suc less) (suc less') few few' r-stmt (f-stmt less (suc less) depth few block B fb).eats) (has-star (rule.stmt (suc less) B))

block-step : (less less' depth depth' : ℕ) → suc depth ≤ suc less → suc depth' ≤ suc less' → Ready depth depth' (read_s.block (suc less) depth) (read_s.block (suc less') depth') (rule.block (suc less) depth)
    → Ready (suc depth) (suc depth') (read_s.block (suc less) (suc depth)) (read_s.block (suc less') (suc depth')) (rule.block (suc less) (suc depth))
block-step less less' depth depth' few few' rb =
    let r = r-stmts less less' depth depth' few few' (read_s.block (suc less) depth) (read_s.block (suc less') depth') (rule.block (suc less) depth) (f-block less (suc less) depth depth (omega arith)) (has-block (suc less) depth) rb in
    record {
      near = record { near = λ ts lt. r.near.near ts lt };
      sound = record { holds = λ ts x us e. r.sound.holds ts x us e };
      moves = record { moves = λ ts x us w. let v = r.moves.moves ts x us w in record { b = v.b; is = v.is; all = λ vs. v.all vs } };
      ends = record { ends = λ ts us lt e. let v = r.ends.ends ts us lt e in record { b = v.b; more = v.more; x = v.x; is = v.is; all = λ vs. v.all vs } };
    }

r-block : (less less' depth depth' : ℕ) → depth ≤ suc less → depth' ≤ suc less' → Ready depth depth' (read_s.block (suc less) depth) (read_s.block (suc less') depth') (rule.block (suc less) depth)
r-block less less' zero depth' few few' = record {
  near = record { near = λ ts lt. absurd (omega arith) };
  sound = s-block (suc less) zero;
  moves = record { moves = λ ts x us w. absurd w };
  ends = record { ends = λ ts us lt e. absurd (omega arith) };
}
r-block less less' (suc depth) zero few few' =
    let r = block-step less 0 depth 0 few (omega arith) (r-block less 0 depth 0 (omega arith) (omega arith)) in
    record { near = near-void 0 (read_s.block (suc less') zero) (omega arith) r.near; sound = r.sound; moves = r.moves; ends = r.ends }
r-block less less' (suc depth) (suc depth') few few' = block-step less less' depth depth' few few' (r-block less less' depth depth' (omega arith) (omega arith))

-- the statements of a module
pub r-module : (less less' : ℕ) → Ready (suc less) (suc less') (read_s.module_of (suc less) (suc less)) (read_s.module_of (suc less') (suc less')) (star (rule.stmt (suc less) (rule.block (suc less) (suc less))))
r-module less less' =
    let block = read_s.block (suc less) (suc less) in
    let B = rule.block (suc less) (suc less) in
    let fb = full-fewer less (omega arith) (f-block less (suc less) (suc less) (suc less) (omega arith)) in
    let rb = ready-fewer less less' (omega arith) (omega arith) (r-block less less' (suc less) (suc less') (omega arith) (omega arith)) in
    ready-star read_s.begins_stmt (suc less) (suc less') (omega arith) (omega arith)
    (r-stmt less less' less less' (omega arith) (omega arith) block (read_s.block (suc less') (suc less')) B fb (λ pos. has-block (suc less) (suc less) (omega arith)) rb)
    (f-stmt less (suc less) less (omega arith) block B fb).eats
