-- How a row stands beside a path, and the row that has one; no public clause cites this.
use Rattle.std.specs.Prelude.{◌≡◌, List, ℕ, slice_get, Some}
use Rattle.std.specs.declared.cmp.Ordering.{Ordering}
use Rattle.version_tree.specs.Contents.{FileRow, path_cmp}

-- how a row stands beside the path
abbrev pub beside : List ℕ → FileRow → Ordering
beside path row = path_cmp row.path path

-- the row has the path and stands among these
pub record IsRowWith (path : List ℕ) (rows : List FileRow) (row : FileRow) : Type 0 where
  pub named : row.path ≡ path
  pub place : ℕ
  pub there : slice_get rows place ≡ Some row
