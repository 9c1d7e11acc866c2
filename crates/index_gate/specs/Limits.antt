-- How large a document may be.
use Rattle.std.specs.Prelude.{ℕ}

-- the most bytes
abbrev pub max_bytes : ℕ
max_bytes = 1048576
