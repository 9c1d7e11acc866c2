-- How much a version may hold, and how its rows are kept together.
use Rattle.std.specs.Prelude.{ℕ}

-- the most files
abbrev pub max_files : ℕ
max_files = 2048

-- the greatest weight of all files together
abbrev pub max_weight : ℕ
max_weight = 24000000

-- the number of a version that no other can follow
abbrev pub max_number : ℕ
max_number = 1000000000

-- the most rows of a block, which versions share
abbrev pub block_rows : ℕ
block_rows = 64
