-- What is seen of the doors and houses in memory.
use Rattle.std.specs.Prelude.{ℕ, Bool}
use Rattle.nav_io.specs.Lending.{Lending}
use Rattle.nav_io.specs.Mem.{Supply, Store}

-- a door in memory: its pairs, and how many faults it had
pub record DoorState : Type 0 where
  pub pairs : Lending (Supply × Store)
  pub faults : ℕ

-- a house in memory: its doors, whether it fails, and how many faults it had
pub record HouseState : Type 0 where
  pub doors : Lending DoorState
  pub fails : Bool
  pub faults : ℕ
