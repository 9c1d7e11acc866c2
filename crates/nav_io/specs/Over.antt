-- What is seen of the sources and sinks over std's readers and writers.
use Rattle.std.specs.Prelude.{ℕ}

-- the reader or writer, and how many of its calls failed
pub record Over (X : Type 0) : Type 0 where
  pub inner : X
  pub faults : ℕ
