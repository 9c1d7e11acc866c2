-- What a version and a view tell of their files, by number and by path, and of which version a view is.
use Rattle.std.specs.Prelude.{◌≡◌, List, ℕ, Option, slice_get}
use Rattle.std.specs.List.{filter}
use Rattle.std.specs.Option.{option_map}
use Rattle.std.specs.Ordering.{is_eq}
use Rattle.partial_path.specs.PathSets.{FileRules}
use Rattle.version_tree.specs.Contents.{FileRow, Content, path_cmp, granted_rows}

-- the path and the file of that number, where there is one
abbrev pub path_at : List FileRow → ℕ → Option (List ℕ)
path_at rows file = option_map (λ (row : FileRow). row.path) (slice_get rows file)

abbrev pub file_at : List FileRow → ℕ → Option FileRules
file_at rows file = option_map (λ (row : FileRow). row.file) (slice_get rows file)

-- the file at the path, where a row has it
abbrev pub file_with : List ℕ → List FileRow → Option FileRules
file_with path rows = file_at (filter (λ (row : FileRow). is_eq (path_cmp row.path path)) rows) 0

-- the rows are those that some user sees of what the version holds
abbrev pub IsViewOf : Content → List FileRow → Type 0
IsViewOf version rows = (user : List ℕ) × (rows ≡ granted_rows user version)
