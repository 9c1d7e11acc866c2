-- Each tree that the grammar derives has no empty dotted name.
use Rattle.std.proofs.Common.{◌≡◌, ℕ, zero, suc, Bool, true, ◌&&◌, List, [], ◌∷◌, refl, ap, sym, ◌∙◌, inl, inr}
use Rattle.std.specs.List.{list_all}
use Rattle.std.specs.Prelude.{Option, Some, None}
use Rattle.py_subset.specs.declared.token.Token.{Token}
use Rattle.py_subset.specs.declared.token.Mark.{Mark}
use Rattle.py_subset.specs.declared.token.Mark.TheVariants as m
use Rattle.py_subset.specs.declared.tree.ImportItem.{ImportItem}
use Rattle.py_subset.specs.declared.tree.FromItem.{FromItem}
use Rattle.py_subset.specs.declared.tree.Word.{Word}
use Rattle.py_subset.specs.declared.tree.Stmt.{Stmt}
use Rattle.py_subset.specs.declared.tree.Stmt.TheVariants as s
use Rattle.py_subset.specs.declared.tree.Module.{Module}
use Rattle.py_subset.specs.Language.{Language}
use Rattle.py_subset.specs.Language as rule
use Rattle.py_subset.specs.Trees as tree
use Rattle.py_subset.specs.Grammar as grammar
use Rattle.py_subset.specs.Correct.{IsModule}
use Rattle.py_subset.specs.Dotted.{has_name, is_dotted, arm_dotted, are_dotted, arms_dotted, HasDotted}
use Rattle.py_subset.proofs.DottedLemmas.{dotted-if, dotted-while, dotted-for, dotted-def, dotted-class, dotted-import, dotted-from, dotted-from_all, dotted-assign, dotted-evaluate, dotted-return, dotted-pass, dotted-break, dotted-continue, dotted-arm}

-- Each tree that the rule reads passes the test.
pub record Passes {A : Type 0} (L : Language A) (p : A → Bool) : Type 0 where
  pub holds : (ts : List Token) (x : A) (us : List Token) → L ts x us → p x ≡ true

abbrev any : {A : Type 0} → A → Bool
any x = true

p-any : {A : Type 0} (L : Language A) → Passes L any
p-any L = record { holds = λ ts x us w. refl }

p-both : {A B C : Type 0} (f : A → B → C) {L : Language A} {M : Language B} {p : A → Bool} {q : B → Bool} (r : C → Bool)
    → ((x : A) (y : B) → p x ≡ true → q y ≡ true → r (f x y) ≡ true) → Passes L p → Passes M q → Passes (rule.both f L M) r
p-both f {L} {M} {p} {q} r h a b = record { holds = λ ts z vs w. ap r w.5 ∙ h w.0 w.1 (a.holds ts w.0 w.2 w.3) (b.holds w.2 w.1 vs w.4) }

p-image : {A B : Type 0} (f : A → B) {L : Language A} {p : A → Bool} (r : B → Bool) → ((x : A) → p x ≡ true → r (f x) ≡ true) → Passes L p → Passes (rule.image f L) r
p-image f {L} {p} r h a = record { holds = λ ts z us w. ap r w.2 ∙ h w.0 (a.holds ts w.0 us w.1) }

p-before : {A : Type 0} (mark : Mark) {L : Language A} {p : A → Bool} → Passes L p → Passes (rule.both (λ _ x. x) (rule.tok mark) L) p
p-before mark {L} {p} a = record { holds = λ ts z vs w. ap p w.5 ∙ a.holds w.2 w.1 vs w.4 }

p-after : {A : Type 0} (mark : Mark) {L : Language A} {p : A → Bool} → Passes L p → Passes (rule.both (λ x _. x) L (rule.tok mark)) p
p-after mark {L} {p} a = record { holds = λ ts z vs w. ap p w.5 ∙ a.holds ts w.0 w.2 w.3 }

p-either : {A : Type 0} {L M : Language A} {p : A → Bool} → Passes L p → Passes M p → Passes (rule.either L M) p
p-either {A} {L} {M} {p} a b = record { holds = by } where
  by : (ts : List Token) (x : A) (us : List Token) → rule.either L M ts x us → p x ≡ true
  by ts x us (inl w) = a.holds ts x us w
  by ts x us (inr w) = b.holds ts x us w

and_true : (a b : Bool) → a ≡ true → b ≡ true → (a && b) ≡ true
and_true a b x y = rw x y

p-star : {A : Type 0} {L : Language A} {p : A → Bool} → Passes L p → Passes (rule.star L) (λ xs. list_all p xs)
p-star {A} {L} {p} a = record { holds = by } where
  by : (ts : List Token) (xs : List A) (us : List Token) → rule.star L ts xs us → list_all p xs ≡ true
  by ts [] us w = refl
  by ts (x ∷ xs) us w = and_true (p x) (list_all p xs) (a.holds ts x w.0 w.1) (by w.0 xs us w.2)

-- one and those after it
p-cons : {A : Type 0} {L M : Language A} {p : A → Bool} → Passes L p → Passes M p → Passes (rule.both tree.cons L (rule.star M)) (λ xs. list_all p xs)
p-cons {A} {L} {M} {p} a b = p-both tree.cons (λ xs. list_all p xs) (λ x xs g h. and_true (p x) (list_all p xs) g h) a (p-star b)

p-listed : {A : Type 0} {L : Language (List A)} (p : A → Bool) → Passes L (λ xs. list_all p xs) → Passes (rule.image tree.listed (rule.opt L)) (λ xs. list_all p xs)
p-listed {A} {L} p a = record { holds = λ ts z us w. ap (λ xs. list_all p xs) w.2 ∙ by ts w.0 us w.1 } where
  by : (ts : List Token) (o : Option (List A)) (us : List Token) → rule.opt L ts o us → list_all p (tree.listed o) ≡ true
  by ts None us w = refl
  by ts (Some xs) us w = a.holds ts xs us w

p-dotted : Passes grammar.dotted has_name
p-dotted = p-both tree.cons has_name (λ x y g h. refl) (p-any rule.name) (p-any (rule.star (rule.both (λ _ x. x) (rule.tok m.Dot) rule.name)))

abbrev item_named : ImportItem → Bool
item_named item = has_name item.dotted

p-modas : Passes grammar.modas item_named
p-modas = p-both tree.import_item item_named (λ x y g h. g) p-dotted (p-any grammar.alias)

p-import : Passes grammar.import_stmt is_dotted
p-import = p-before m.Import (p-image s.Import is_dotted (λ items g. dotted-import items ∙ g) (p-cons p-modas (p-before m.Comma p-modas)))

from_dotted : (dotted : List Word) (o : Option (List FromItem)) → has_name dotted ≡ true → is_dotted (tree.from_stmt dotted o) ≡ true
from_dotted dotted None g = dotted-from_all dotted ∙ g
from_dotted dotted (Some items) g = dotted-from dotted items ∙ g

p-from : Passes grammar.from_stmt is_dotted
p-from = p-before m.From (p-both tree.from_stmt is_dotted (λ x y g h. from_dotted x y g) p-dotted (p-any (rule.both (λ _ x. x) (rule.tok m.Import) grammar.imported)))

some_is : {A : Type 0} (x y : A) → Some x ≡ Some y → x ≡ y
some_is x y e = cc

jumped : (a : Mark) (x : Stmt) → tree.jump_of a ≡ Some x → is_dotted x ≡ true
jumped m.Pass x e = ap is_dotted (sym (some_is s.Pass x e)) ∙ dotted-pass
jumped m.Break x e = ap is_dotted (sym (some_is s.Break x e)) ∙ dotted-break
jumped m.Continue x e = ap is_dotted (sym (some_is s.Continue x e)) ∙ dotted-continue
jumped _ x e = cc

p-jump : Passes (rule.marked tree.jump_of) is_dotted
p-jump = record { holds = by } where
  by : (ts : List Token) (x : Stmt) (us : List Token) → rule.marked tree.jump_of ts x us → is_dotted x ≡ true
  by [] x us w = absurd w
  by (t ∷ ts) x us w = jumped t.mark x w.0

module _ (depth : ℕ) where
  p-assign : Passes (grammar.assign depth) is_dotted
  p-assign = p-either (p-both s.Assign is_dotted (λ x y g h. dotted-assign x y) (p-any (grammar.target depth)) (p-any (rule.both (λ _ x. x) (rule.tok m.Assign) (grammar.exprs depth))))
      (p-image s.Evaluate is_dotted (λ x g. dotted-evaluate x) (p-any (grammar.exprs depth)))

  p-return : Passes (grammar.return_stmt depth) is_dotted
  p-return = p-before m.Return (p-image s.Return is_dotted (λ x g. dotted-return x) (p-any (rule.opt (grammar.exprs depth))))

  p-line : Passes (grammar.simple_line depth) is_dotted
  p-line = p-after m.Newline (p-either p-import (p-either p-from (p-either p-return (p-either p-jump p-assign))))

abbrev both_dotted : List Stmt × List Stmt → Bool
both_dotted z = are_dotted z.0 && are_dotted z.1

module _ (depth : ℕ) (block : Language (List Stmt)) (pb : Passes block are_dotted) where
  p-suite : Passes (grammar.suite depth block) are_dotted
  p-suite = p-either (p-before m.Newline (p-before m.Indent (p-after m.Dedent pb))) (p-image (λ x. x ∷ []) are_dotted (λ x g. and_true (is_dotted x) true g refl) (p-line depth))

  p-otherwise : Passes (grammar.otherwise depth block) are_dotted
  p-otherwise = p-listed is_dotted (p-before m.Else (p-before m.Colon p-suite))

  p-bodies : Passes (grammar.bodies depth block) both_dotted
  p-bodies = p-before m.Colon (p-both tree.pair both_dotted (λ x y g h. and_true (are_dotted x) (are_dotted y) g h) p-suite p-otherwise)

  p-arm : Passes (grammar.arm depth block) arm_dotted
  p-arm = p-both tree.arm_of arm_dotted (λ x y g h. dotted-arm x y ∙ h) (p-any (grammar.condition depth)) (p-before m.Colon p-suite)

  p-if : Passes (grammar.if_stmt depth block) is_dotted
  p-if = p-before m.If (p-both s.If is_dotted (λ x y g h. dotted-if x y ∙ and_true (arms_dotted x) (are_dotted y) g h) (p-cons p-arm (p-before m.Elif p-arm)) p-otherwise)

  p-while : Passes (grammar.while_stmt depth block) is_dotted
  p-while = p-before m.While (p-both tree.while_of is_dotted (λ x y g h. dotted-while x y.0 y.1 ∙ h) (p-any (grammar.condition depth)) p-bodies)

  p-for : Passes (grammar.for_stmt depth block) is_dotted
  p-for = p-before m.For (p-both tree.for_of is_dotted (λ x y g h. dotted-for x y.0 y.1.0 y.1.1 ∙ h) (p-any rule.name)
      (p-before m.In (p-both tree.pair (λ z. both_dotted z.1) (λ x y g h. h) (p-any (grammar.exprs depth)) p-bodies)))

  p-def : Passes (grammar.def_stmt depth block) is_dotted
  p-def = p-before m.Def (p-both tree.def_of is_dotted (λ x y g h. dotted-def x y.0 y.1 ∙ h) (p-any rule.name)
      (p-both tree.pair (λ z. are_dotted z.1) (λ x y g h. h) (p-any (grammar.parameters depth)) (p-before m.Colon p-suite)))

  p-class : Passes (grammar.class_stmt depth block) is_dotted
  p-class = p-before m.Class (p-both tree.class_of is_dotted (λ x y g h. dotted-class x y.0 y.1 ∙ h) (p-any rule.name)
      (p-both tree.pair (λ z. are_dotted z.1) (λ x y g h. h) (p-any (grammar.bases depth)) (p-before m.Colon p-suite)))

  p-stmt : Passes (grammar.stmt depth block) is_dotted
  p-stmt = p-either p-if (p-either p-while (p-either p-for (p-either p-def (p-either p-class (p-line depth)))))

  p-stmts : Passes (grammar.stmts depth block) are_dotted
  p-stmts = p-cons p-stmt p-stmt

p-block : (depth blocks : ℕ) → Passes (grammar.block depth blocks) are_dotted
p-block depth zero = record { holds = λ ts x us w. absurd w }
p-block depth (suc blocks) = record { holds = λ ts x us w. (p-stmts depth (grammar.block depth blocks) (p-block depth blocks)).holds ts x us w }

-- A text's module has no empty dotted name.
pub module-dotted : (text : List ℕ) (whole : Module) → IsModule text whole → HasDotted whole
module-dotted text whole w = (p-star (p-stmt w.2.0 (grammar.block w.2.0 w.2.1) (p-block w.2.0 w.2.1))).holds w.0 whole.body [] w.2.2
