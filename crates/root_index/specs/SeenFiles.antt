-- For each path of an index the number of its file among those that are seen: a table, made once for many look-ups.
use Rattle.std.specs.Prelude.{◌≡◌, ℕ, List, map, Option, Some, None, nat_lt, if◌then◌else◌}
use Rattle.version_tree.specs.Contents.{FileRow}
use Rattle.root_index.specs.Roots.{RootPath}
use Rattle.root_index.specs.Offers.{number_in}

-- the number of each path's file among those that are seen, where it is seen
abbrev pub files_seen : List RootPath → List FileRow → List (Option ℕ)
files_seen paths view = map (λ (p : RootPath). number_in view p.path) paths

-- the table is that of these paths and rows
abbrev pub AreSeenFiles : List RootPath → List FileRow → List (Option ℕ) → Type 0
AreSeenFiles paths view files = files ≡ files_seen paths view

-- the number of 32 bits that stands in it for a file that isn't seen
abbrev pub not_seen : ℕ
not_seen = 4294967295

-- what a number in it tells
abbrev pub file_told : ℕ → Option ℕ
file_told n = if nat_lt n not_seen then Some n else None
