-- The paths of files that begin at the root, and the order in which an index keeps them.
use Rattle.std.specs.Prelude.{◌≡◌, ℕ, ◌+◌, List, [], ◌∷◌, ◌++◌, Option, Some, IsPermutation, IsSortedByKey, if◌then◌else◌}
use Rattle.std.specs.List.{flat_map}
use Rattle.std.specs.Option.{option_map_or}
use Rattle.std.specs.Ordering.{nat_cmp, ordering_then}
use Rattle.std.specs.declared.cmp.Ordering.{Ordering}
use Rattle.partial_path.specs.declared.config.Spot.TheVariants as spot
use Rattle.partial_path.specs.declared.rule.Start.{Start}
use Rattle.partial_path.specs.declared.rule.Start.TheVariants.{After}
use Rattle.partial_path.specs.Rules.{Rule}
use Rattle.partial_path.specs.Starts.{begins_at}
use Rattle.partial_path.specs.Keys.{key, key_cmp}
use Rattle.version_tree.specs.Contents.{FileRow, Content, path_cmp, IsInOrder}
use Rattle.version_tree.specs.Views.{IsViewOf}

-- a path from the root: the path of its file, its place among the file's paths, and the rule that stands there
pub record RootPath : Type 0 where
  pub path : List ℕ
  pub place : ℕ
  pub rule : Option Rule

-- the path of these parts
abbrev pub root_path : List ℕ → ℕ → Option Rule → RootPath
root_path path place rule = record { path = path; place = place; rule = rule }

-- the root, where such a path begins
abbrev pub root : Start
root = After spot.Root

-- those among the rules of a file at that path, of which the first has that place
abbrev pub roots_from : List ℕ → ℕ → List Rule → List RootPath
roots_from path place [] = []
roots_from path place (rule ∷ rules) =
    (if begins_at root rule then root_path path place (Some rule) ∷ [] else []) ++ roots_from path (place + 1) rules

-- those of a row's file, and those of all rows
abbrev pub roots_of : FileRow → List RootPath
roots_of row = roots_from row.path 0 row.file.rules

abbrev pub all_roots : List FileRow → List RootPath
all_roots rows = flat_map roots_of rows

-- the texts of the first symbols that the path asks for
abbrev pub root_key : RootPath → List (List ℕ)
root_key p = option_map_or key p.rule []

-- they stand by key, those of one key by the paths of their files, and those of one file by their places
abbrev pub rank : RootPath → List (List ℕ) × (List ℕ × ℕ)
rank p = (root_key p, (p.path, p.place))

-- how the one rank stands to the other
abbrev pub rank_cmp : List (List ℕ) × (List ℕ × ℕ) → List (List ℕ) × (List ℕ × ℕ) → Ordering
rank_cmp a b = ordering_then (key_cmp a.0 b.0) (ordering_then (path_cmp a.1.0 b.1.0) (nat_cmp a.1.1 b.1.1))

-- the paths stand in the order of their ranks
abbrev pub AreByRank : List RootPath → Type 0
AreByRank = IsSortedByKey rank rank_cmp

-- the index of rows: all their paths from the root, each once, in that order
pub record IsIndexOf (rows : List FileRow) (paths : List RootPath) : Type 0 where
  pub all : IsPermutation (all_roots rows) paths
  pub order : AreByRank paths

-- the index is that of the version of which some user sees these rows
pub record IsIndexOfView (paths : List RootPath) (view : List FileRow) : Type 0 where
  pub version : Content
  pub index : IsIndexOf version.rows paths
  pub shown : IsViewOf version view

-- rows have one index
abbrev pub OneIndex : Type 0
OneIndex = (rows : List FileRow) (a b : List RootPath) → IsInOrder rows → IsIndexOf rows a → IsIndexOf rows b → a ≡ b
