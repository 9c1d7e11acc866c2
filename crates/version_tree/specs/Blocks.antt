-- How the rows of a version stand in blocks; no public clause cites this.
use Rattle.std.specs.Prelude.{List, [], ◌∷◌, ℕ, ◌+◌, ◌<◌, ◌≤◌, ◌≡◌, length, take, drop}
use Rattle.std.specs.List.{AllByRecursion, flat_map}
use Rattle.std.specs.declared.cmp.Ordering.{Ordering}
use Rattle.std.specs.declared.cmp.Ordering.TheVariants.{Less, Greater}
use Rattle.version_tree.specs.Limits.{block_rows}
use Rattle.version_tree.specs.Contents.{FileRow, IsInOrder, HaveSets, path_cmp}
use Rattle.version_tree.specs.Places.{beside}

-- a block has 1 to `block_rows` rows
pub record IsBlock (block : List FileRow) : Type 0 where
  pub some : 1 ≤ length block
  pub few : length block ≤ block_rows

-- the rows of the blocks, one block after the other
abbrev pub all_rows : List (List FileRow) → List FileRow
all_rows blocks = flat_map (λ (block : List FileRow). block) blocks

-- each block has 1 to `block_rows` rows, and all rows together stand in order, each with its path set
pub record AreBlocks (blocks : List (List FileRow)) : Type 0 where
  pub sizes : AllByRecursion IsBlock blocks
  pub order : IsInOrder (all_rows blocks)
  pub sets : HaveSets (all_rows blocks)

-- the path of a block's first row, and how it stands beside the path
abbrev pub first_path : List FileRow → List ℕ
first_path [] = []
first_path (row ∷ rows) = row.path

abbrev pub first_beside : List ℕ → List FileRow → Ordering
first_beside path block = path_cmp (first_path block) path

-- a row with the path is in the block at that place or nowhere: the rows of the blocks before it are lower, and
-- those of the blocks after it are higher
pub record IsBlockFor (path : List ℕ) (blocks : List (List FileRow)) (i : ℕ) : Type 0 where
  pub in_range : i < length blocks
  pub before : AllByRecursion (λ (row : FileRow). beside path row ≡ Less) (all_rows (take i blocks))
  pub after : AllByRecursion (λ (row : FileRow). beside path row ≡ Greater) (all_rows (drop (i + 1) blocks))
