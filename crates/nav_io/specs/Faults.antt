-- What a count of faults tells of a call.
use Rattle.std.specs.Prelude.{ℕ, ◌+◌, ◌-◌, ◌^◌, ◌≤◌, min}

-- The count rose from old to new. One that stands at 2^64 - 1, where it stays, counts as risen.
abbrev pub HasRisen : ℕ → ℕ → Type 0
HasRisen old new = min (old + 1) (2 ^ 64 - 1) ≤ new

-- a count after one more, where it stays at 2^64 - 1
abbrev pub counted : ℕ → ℕ
counted n = min (n + 1) (2 ^ 64 - 1)
