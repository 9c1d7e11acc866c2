-- The equations of what it means that no dotted name is empty.
use Rattle.std.proofs.Common.{◌≡◌, Bool, true, ◌&&◌, List, [], ◌∷◌, map, refl, ap, sym, ◌∙◌}
use Rattle.std.specs.List.{list_all}
use Rattle.std.specs.Prelude.{Option}
use Rattle.py_subset.specs.declared.tree.Word.{Word}
use Rattle.py_subset.specs.declared.tree.Expr.{Expr}
use Rattle.py_subset.specs.declared.tree.Exprs.{Exprs}
use Rattle.py_subset.specs.declared.tree.Target.{Target}
use Rattle.py_subset.specs.declared.tree.ImportItem.{ImportItem}
use Rattle.py_subset.specs.declared.tree.FromItem.{FromItem}
use Rattle.py_subset.specs.declared.tree.Stmt.{Stmt}
use Rattle.py_subset.specs.declared.tree.Stmt.TheOpen.{Stmt-F}
use Rattle.py_subset.specs.declared.tree.Stmt.TheFolds.{fold-roll-Stmt, fold-roll-Arm}
use Rattle.py_subset.specs.declared.tree.Stmt.TheVariants as s
use Rattle.py_subset.specs.declared.tree.Arm.{Arm}
use Rattle.py_subset.specs.Trees.{arm_of}
use Rattle.py_subset.specs.Dotted.{has_name, items_dotted, all, stmt_step, arm_step, is_dotted, arm_dotted, are_dotted, arms_dotted}

all-map : {A : Type 0} (p : A → Bool) (xs : List A) → all (map p xs) ≡ list_all p xs
all-map p [] = refl
all-map p (x ∷ xs) = ap (λ (b : Bool). p x && b) (all-map p xs)

pub dotted-if : (arms : List Arm) (otherwise : List Stmt) → is_dotted (s.If arms otherwise) ≡ arms_dotted arms && are_dotted otherwise
dotted-if arms otherwise =
    ap is_dotted (sym (s.rolls-If arms otherwise)) ∙ fold-roll-Stmt Bool Bool stmt_step arm_step (Stmt-F.If arms otherwise)
    ∙ ap (λ (b : Bool). b && all (map is_dotted otherwise)) (all-map arm_dotted arms) ∙ ap (λ (b : Bool). arms_dotted arms && b) (all-map is_dotted otherwise)

pub dotted-while : (condition : Expr) (body otherwise : List Stmt) → is_dotted (s.While condition body otherwise) ≡ are_dotted body && are_dotted otherwise
dotted-while condition body otherwise =
    ap is_dotted (sym (s.rolls-While condition body otherwise)) ∙ fold-roll-Stmt Bool Bool stmt_step arm_step (Stmt-F.While condition body otherwise)
    ∙ ap (λ (b : Bool). b && all (map is_dotted otherwise)) (all-map is_dotted body) ∙ ap (λ (b : Bool). are_dotted body && b) (all-map is_dotted otherwise)

pub dotted-for : (word : Word) (items : Exprs) (body otherwise : List Stmt) → is_dotted (s.For word items body otherwise) ≡ are_dotted body && are_dotted otherwise
dotted-for word items body otherwise =
    ap is_dotted (sym (s.rolls-For word items body otherwise)) ∙ fold-roll-Stmt Bool Bool stmt_step arm_step (Stmt-F.For word items body otherwise)
    ∙ ap (λ (b : Bool). b && all (map is_dotted otherwise)) (all-map is_dotted body) ∙ ap (λ (b : Bool). are_dotted body && b) (all-map is_dotted otherwise)

pub dotted-def : (word : Word) (parameters : List Word) (body : List Stmt) → is_dotted (s.Def word parameters body) ≡ are_dotted body
dotted-def word parameters body =
    ap is_dotted (sym (s.rolls-Def word parameters body)) ∙ fold-roll-Stmt Bool Bool stmt_step arm_step (Stmt-F.Def word parameters body) ∙ all-map is_dotted body

pub dotted-class : (word : Word) (bases : List Expr) (body : List Stmt) → is_dotted (s.Class word bases body) ≡ are_dotted body
dotted-class word bases body =
    ap is_dotted (sym (s.rolls-Class word bases body)) ∙ fold-roll-Stmt Bool Bool stmt_step arm_step (Stmt-F.Class word bases body) ∙ all-map is_dotted body

pub dotted-import : (items : List ImportItem) → is_dotted (s.Import items) ≡ items_dotted items
dotted-import items = ap is_dotted (sym (s.rolls-Import items)) ∙ fold-roll-Stmt Bool Bool stmt_step arm_step (Stmt-F.Import items)

pub dotted-from : (dotted : List Word) (items : List FromItem) → is_dotted (s.From dotted items) ≡ has_name dotted
dotted-from dotted items = ap is_dotted (sym (s.rolls-From dotted items)) ∙ fold-roll-Stmt Bool Bool stmt_step arm_step (Stmt-F.From dotted items)

pub dotted-from_all : (dotted : List Word) → is_dotted (s.FromAll dotted) ≡ has_name dotted
dotted-from_all dotted = ap is_dotted (sym (s.rolls-FromAll dotted)) ∙ fold-roll-Stmt Bool Bool stmt_step arm_step (Stmt-F.FromAll dotted)

pub dotted-assign : (target : Target) (exprs : Exprs) → is_dotted (s.Assign target exprs) ≡ true
dotted-assign target exprs = ap is_dotted (sym (s.rolls-Assign target exprs)) ∙ fold-roll-Stmt Bool Bool stmt_step arm_step (Stmt-F.Assign target exprs)

pub dotted-evaluate : (exprs : Exprs) → is_dotted (s.Evaluate exprs) ≡ true
dotted-evaluate exprs = ap is_dotted (sym (s.rolls-Evaluate exprs)) ∙ fold-roll-Stmt Bool Bool stmt_step arm_step (Stmt-F.Evaluate exprs)

pub dotted-return : (exprs : Option Exprs) → is_dotted (s.Return exprs) ≡ true
dotted-return exprs = ap is_dotted (sym (s.rolls-Return exprs)) ∙ fold-roll-Stmt Bool Bool stmt_step arm_step (Stmt-F.Return exprs)

pub dotted-pass : is_dotted s.Pass ≡ true
dotted-pass = ap is_dotted (sym s.rolls-Pass) ∙ fold-roll-Stmt Bool Bool stmt_step arm_step Stmt-F.Pass

pub dotted-break : is_dotted s.Break ≡ true
dotted-break = ap is_dotted (sym s.rolls-Break) ∙ fold-roll-Stmt Bool Bool stmt_step arm_step Stmt-F.Break

pub dotted-continue : is_dotted s.Continue ≡ true
dotted-continue = ap is_dotted (sym s.rolls-Continue) ∙ fold-roll-Stmt Bool Bool stmt_step arm_step Stmt-F.Continue

pub dotted-arm : (condition : Expr) (body : List Stmt) → arm_dotted (arm_of condition body) ≡ are_dotted body
dotted-arm condition body = fold-roll-Arm Bool Bool stmt_step arm_step (record { condition = condition; body = body }) ∙ all-map is_dotted body
