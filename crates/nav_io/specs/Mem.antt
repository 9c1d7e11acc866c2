-- What is seen of the sources and sinks in memory.
use Rattle.std.specs.Prelude.{ℕ, Bool, ◌==◌, List}
use Rattle.std.specs.List.{list_any}

-- a source in memory: the bytes left, how many it gives at a read, and which of its calls fail
pub record Supply : Type 0 where
  pub left : List ℕ
  pub piece : ℕ
  pub failing : List ℕ
  -- how many calls there were, and how many of them failed
  pub calls : ℕ
  pub faults : ℕ

-- a sink in memory: the bytes held, how many it takes at a write, and which of its calls fail
pub record Store : Type 0 where
  pub held : List ℕ
  pub piece : ℕ
  pub failing : List ℕ
  -- how many calls there were, and how many of them failed
  pub calls : ℕ
  pub faults : ℕ

-- the call with this number is one of those that fail
abbrev pub fails_now : List ℕ → ℕ → Bool
fails_now failing call = list_any (λ number. number == call) failing
