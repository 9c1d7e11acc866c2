-- That no dotted name of a module is an empty list.
use Rattle.std.specs.Prelude.{Bool, true, false, ◌&&◌, List, [], ◌∷◌, IsTrue}
use Rattle.std.specs.List.{list_all}
use Rattle.py_subset.specs.declared.tree.Word.{Word}
use Rattle.py_subset.specs.declared.tree.ImportItem.{ImportItem}
use Rattle.py_subset.specs.declared.tree.Stmt.{Stmt}
use Rattle.py_subset.specs.declared.tree.Stmt.TheOpen.{Stmt-F, Arm-F}
use Rattle.py_subset.specs.declared.tree.Stmt.TheFolds.{fold-Stmt, fold-Arm}
use Rattle.py_subset.specs.declared.tree.Arm.{Arm}
use Rattle.py_subset.specs.declared.tree.Module.{Module}

-- whether a dotted name has a name
abbrev pub has_name : List Word → Bool
has_name [] = false
has_name (w ∷ ws) = true

-- whether the dotted name of each imported module has one
abbrev pub items_dotted : List ImportItem → Bool
items_dotted items = list_all (λ item. has_name item.dotted) items

-- whether all answers are true
abbrev pub all : List Bool → Bool
all answers = list_all (λ b. b) answers

-- One statement, and one arm, with the answer for each statement and arm inside in its place.
abbrev pub stmt_step : Stmt-F Bool Bool → Bool
stmt_step (Stmt-F.Import items) = items_dotted items
stmt_step (Stmt-F.From dotted items) = has_name dotted
stmt_step (Stmt-F.FromAll dotted) = has_name dotted
stmt_step (Stmt-F.If arms otherwise) = all arms && all otherwise
stmt_step (Stmt-F.While condition body otherwise) = all body && all otherwise
stmt_step (Stmt-F.For word items body otherwise) = all body && all otherwise
stmt_step (Stmt-F.Def word parameters body) = all body
stmt_step (Stmt-F.Class word bases body) = all body
stmt_step (Stmt-F.Assign target value) = true
stmt_step (Stmt-F.Evaluate value) = true
stmt_step (Stmt-F.Return value) = true
stmt_step Stmt-F.Pass = true
stmt_step Stmt-F.Break = true
stmt_step Stmt-F.Continue = true

-- one arm
abbrev pub arm_step : Arm-F Bool Bool → Bool
arm_step arm = all arm.body

-- whether each dotted name in a statement, in an arm and in their blocks has a name
abbrev pub is_dotted : Stmt → Bool
is_dotted = fold-Stmt Bool Bool stmt_step arm_step

-- the same of an arm
abbrev pub arm_dotted : Arm → Bool
arm_dotted = fold-Arm Bool Bool stmt_step arm_step

-- the same of several
abbrev pub are_dotted : List Stmt → Bool
are_dotted body = list_all is_dotted body

-- the same of several arms
abbrev pub arms_dotted : List Arm → Bool
arms_dotted arms = list_all arm_dotted arms

-- No dotted name of the module is an empty list.
abbrev pub HasDotted : Module → Type 0
HasDotted whole = IsTrue (are_dotted whole.body)
