-- The paths of files that end outside them, at the root or by the stack, as an index keeps them.
use Rattle.std.specs.Prelude.{◌≡◌, ℕ, ◌+◌, List, [], ◌∷◌, ◌++◌, map, All, Bool, not, nat_eq, IsPermutation}
use Rattle.std.specs.List.{flat_map}
use Rattle.partial_path.specs.declared.end_table.EndMark.{EndMark}
use Rattle.partial_path.specs.Rules.{Rule}
use Rattle.partial_path.specs.PathSets.{FileRules}
use Rattle.partial_path.specs.Ends.{ends_at_root, ends_by_stack, end_marks}
use Rattle.version_tree.specs.Contents.{FileRow}
use Rattle.root_index.specs.Offers.{files_of}
use Rattle.end_index.specs.declared.place.EndPlace.{EndPlace}
use Rattle.end_index.specs.Runs.{AreByRank}

-- the path that a mark of the file with that number tells
abbrev pub end_place : ℕ → EndMark → EndPlace
end_place file mark = record { key = mark.key; file = file; place = mark.place }

-- the paths that the marks of files tell, of which the first has that number
abbrev pub placed : ℕ → List (List EndMark) → List EndPlace
placed file [] = []
placed file (marks ∷ rest) = map (end_place file) marks ++ placed (file + 1) rest

-- the marks of a file that tell the paths that pass, and those of files
abbrev pub marks_in : (Rule → Bool) → FileRules → List EndMark
marks_in passes file = end_marks passes 0 file.rules

abbrev pub marks_of : (Rule → Bool) → List FileRules → List (List EndMark)
marks_of passes files = map (marks_in passes) files

-- those of the rules of the file with that number that pass, and those of files of which the first has that number
abbrev pub ends_in : (Rule → Bool) → ℕ → List Rule → List EndPlace
ends_in passes file rules = map (end_place file) (end_marks passes 0 rules)

abbrev pub ends_after : (Rule → Bool) → ℕ → List FileRules → List EndPlace
ends_after passes file files = placed file (marks_of passes files)

-- all paths of some shares, share by share
abbrev pub all_of : List (List EndPlace) → List EndPlace
all_of shares = flat_map (λ (places : List EndPlace). places) shares

-- the shares have the paths that the marks tell, each once, and each share is in order
pub record AreListed (marks : List (List EndMark)) (shares : List (List EndPlace)) : Type 0 where
  pub all : IsPermutation (placed 0 marks) (all_of shares)
  pub order : All AreByRank shares

-- whether the path is of another file than that one
abbrev pub is_of_other : ℕ → EndPlace → Bool
is_of_other file p = not (nat_eq p.file file)

-- the same of the marks of the files' paths that pass
abbrev pub AreEndsOf : (Rule → Bool) → List FileRules → List (List EndPlace) → Type 0
AreEndsOf passes files shares = AreListed (marks_of passes files) shares

-- the marks of all files, and the paths that they tell, in shares
pub record SideView : Type 0 where
  pub marks : List (List EndMark)
  pub shares : List (List EndPlace)

abbrev pub side_of : List (List EndMark) → List (List EndPlace) → SideView
side_of marks shares = record { marks = marks; shares = shares }

-- the same of some files that follow one another, in one share
pub record PartView : Type 0 where
  pub marks : List (List EndMark)
  pub places : List EndPlace

abbrev pub part_of : List (List EndMark) → List EndPlace → PartView
part_of marks places = record { marks = marks; places = places }

-- the first file of the part has that number, and its paths are those that its marks tell, in order
pub record IsPartAt (file : ℕ) (part : PartView) : Type 0 where
  pub all : IsPermutation (placed file part.marks) part.places
  pub order : AreByRank part.places

-- paths that end at the root, and paths that end by the stack and make no scope
pub record Ends : Type 0 where
  pub root : SideView
  pub stack : SideView

abbrev pub ends_of : SideView → SideView → Ends
ends_of root stack = record { root = root; stack = stack }

-- the marks of these files' paths that pass
abbrev pub IsSideOf : (Rule → Bool) → List FileRules → SideView → Type 0
IsSideOf passes files side = side.marks ≡ marks_of passes files

-- the index of what a user sees: of all paths of the files those that end so
pub record IsEndIndexOf (view : List FileRow) (ends : Ends) : Type 0 where
  pub root : IsSideOf ends_at_root (files_of view) ends.root
  pub stack : IsSideOf ends_by_stack (files_of view) ends.stack
