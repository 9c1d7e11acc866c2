-- Where each of the rows of blocks stands; no public clause cites this.
use Rattle.std.specs.Prelude.{ℕ, zero, suc, ◌+◌, List, [], ◌∷◌, ◌++◌, length}
use Rattle.version_tree.specs.Contents.{FileRow}
use Rattle.version_tree.specs.declared.view.RowPlace.{RowPlace}

-- the row at that place of the block of that number
abbrev pub row_place : ℕ → ℕ → RowPlace
row_place block row = record { block = block; row = row }

-- so many rows of the block of that number, from one on
abbrev pub places_in : ℕ → ℕ → ℕ → List RowPlace
places_in block row zero = []
places_in block row (suc n) = row_place block row ∷ places_in block (row + 1) n

-- all rows of blocks of which the first has that number
abbrev pub places_from : ℕ → List (List FileRow) → List RowPlace
places_from n [] = []
places_from n (block ∷ blocks) = places_in n 0 (length block) ++ places_from (n + 1) blocks

-- how many rows stand before each block, where so many stand before the first
abbrev pub starts_from : ℕ → List (List FileRow) → List ℕ
starts_from n [] = []
starts_from n (block ∷ blocks) = n ∷ starts_from (n + length block) blocks
