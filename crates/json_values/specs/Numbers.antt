-- Which values are whole numbers in a range.
use Rattle.std.specs.Prelude.{ℕ, ◌&&◌, Bool, nat_le, if◌then◌else◌, Option, Some, None, option_and_then}
use Rattle.serde_json.specs.Data.{Data}
use Rattle.serde_json.specs.Find.{as_u64, as_number}

-- the value, where the test holds
abbrev pub only_if : {A : Type 0} → Bool → A → Option A
only_if test x = if test then Some x else None

-- a whole number between these two, both included
abbrev pub number_between : ℕ → ℕ → Data → Option ℕ
number_between low high d =
    option_and_then (λ n. only_if (nat_le low n && nat_le n high) n)
    (option_and_then as_u64 (as_number d))

-- a whole number of 32 bits
abbrev pub u32_of : Data → Option ℕ
u32_of d = number_between 0 4294967295 d

-- a whole number of 16 bits
abbrev pub u16_of : Data → Option ℕ
u16_of d = number_between 0 65535 d
