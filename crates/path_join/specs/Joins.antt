-- What the join of two partial paths is: one path that does what the first and then the second does.
use Rattle.std.specs.Prelude.{◌≡◌, ℕ, ◌+◌, ◌-◌, ◌++◌, length, max, Option, Some, None, IsSome}
use Rattle.std.specs.Option.{option_and_then}
use Rattle.partial_path.specs.declared.config.Config.{Config}
use Rattle.partial_path.specs.Rules.{Rule}
use Rattle.partial_path.specs.Apply.{apply, height}
use Rattle.partial_path.specs.FileNumbers.{IsOfFileZero}

-- the first path applied, and then the second; None where either has no result
abbrev pub apply_both : Rule → Rule → Config → Option Config
apply_both p q c = option_and_then (apply q) (apply p c)

-- the peak of the join of two paths
abbrev pub joined_peak : Rule → Rule → ℕ
joined_peak p q =
    max (p.peak + (length q.pre.symbols - length p.post.symbols)) (q.peak + (length p.post.symbols - length q.pre.symbols))

-- the join of two paths: it begins as the first does, has the edges of both, does on every configuration
-- what the one and then the other does, is as high on its way as the higher of the two, and isn't idle:
-- some configuration passes both. It is of file 0 alone where both are
pub record IsJoin (p : Rule) (q : Rule) (j : Rule) : Type 0 where
  pub start : j.start ≡ p.start
  pub edges : j.edges ≡ p.edges ++ q.edges
  pub files : IsOfFileZero p → IsOfFileZero q → IsOfFileZero j
  pub peak : j.peak ≡ joined_peak p q
  pub applies : (c : Config) → apply j c ≡ apply_both p q c
  pub high : (c d : Config) → apply p c ≡ Some d → IsSome (apply q d) → height j c ≡ max (height p c) (height q d)
  pub passed : (c : Config) × IsSome (apply j c)

-- no configuration passes both paths
abbrev pub NonePasses : Rule → Rule → Type 0
NonePasses p q = (c : Config) → apply_both p q c ≡ None
