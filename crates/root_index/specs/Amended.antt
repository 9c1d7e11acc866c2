-- Which files edits touch.
use Rattle.std.specs.Prelude.{◌≡◌, ℕ, List, Bool, true, false, not, filter, Option, Some, None, slice_get, All, Contains}
use Rattle.std.specs.List.{list_any}
use Rattle.std.specs.Option.{option_map_or}
use Rattle.std.specs.Ordering.{is_eq}
use Rattle.partial_path.specs.Rules.{Rule}
use Rattle.partial_path.specs.Starts.{begins_at}
use Rattle.version_tree.specs.declared.edit.Edit.{Edit}
use Rattle.version_tree.specs.declared.edit.Edit.TheVariants.{Put, Remove, Grant, Revoke, Deny, Undeny}
use Rattle.version_tree.specs.Contents.{FileRow, path_cmp}
use Rattle.root_index.specs.Roots.{RootPath, root}

-- the path of the file that an edit puts or removes
abbrev pub edit_path : Edit → Option (List ℕ)
edit_path (Put path paths) = Some path
edit_path (Remove path) = Some path
edit_path (Grant user prefix) = None
edit_path (Revoke user prefix) = None
edit_path (Deny user prefix) = None
edit_path (Undeny user prefix) = None

-- whether the edit puts or removes the file at the path
abbrev pub names : List ℕ → Edit → Bool
names path edit = option_map_or (λ (other : List ℕ). is_eq (path_cmp other path)) (edit_path edit) false

-- whether one of the edits does
abbrev pub is_touched : List Edit → List ℕ → Bool
is_touched edits path = list_any (names path) edits

-- the paths of the files that no edit touches, and the rows that one does
abbrev pub other_paths : List Edit → List RootPath → List RootPath
other_paths edits paths = filter (λ (p : RootPath). not (is_touched edits p.path)) paths

abbrev pub touched_rows : List Edit → List FileRow → List FileRow
touched_rows edits rows = filter (λ (row : FileRow). is_touched edits row.path) rows

-- the paths of other files than the one at that path, and the rows with that path
abbrev pub without_file : List ℕ → List RootPath → List RootPath
without_file path paths = filter (λ (p : RootPath). not (is_eq (path_cmp path p.path))) paths

abbrev pub rows_at : List ℕ → List FileRow → List FileRow
rows_at path rows = filter (λ (row : FileRow). is_eq (path_cmp path row.path)) rows

-- the path stands at its place in the file, and begins at the root
pub record IsOf (row : FileRow) (p : RootPath) : Type 0 where
  pub rule : Rule
  pub there : slice_get row.file.rules p.place ≡ Some rule
  pub same : p.rule ≡ Some rule
  pub from : begins_at root rule ≡ true

-- those of the paths that have the file's path stand in it
abbrev pub AreOf : FileRow → List RootPath → Type 0
AreOf row paths = All (λ (p : RootPath). is_eq (path_cmp row.path p.path) ≡ true → IsOf row p) paths

-- the path is one of some row's file
pub record IsFrom (rows : List FileRow) (p : RootPath) : Type 0 where
  pub row : FileRow
  pub one : Contains rows row
  pub named : p.path ≡ row.path
  pub of : IsOf row p

-- each of the paths is one of some row's file
abbrev pub AreFrom : List FileRow → List RootPath → Type 0
AreFrom rows paths = All (IsFrom rows) paths
