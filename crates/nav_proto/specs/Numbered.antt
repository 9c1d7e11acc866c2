-- A fault with a number by where that stands; no public clause cites this.
use Rattle.std.specs.Prelude.{ℕ, List}
use Rattle.nav_proto.specs.Faults.{number_first, number_inside, number_last}
use Rattle.nav_proto.specs.declared.faults.Stands.{Stands}
use Rattle.nav_proto.specs.declared.faults.Stands.TheVariants.{First, Inside, Last}

-- the text of a fault with a number of this name
abbrev pub numbered : Stands → List ℕ → ℕ → List ℕ → List ℕ → List ℕ
numbered First = number_first
numbered Inside = number_inside
numbered Last = number_last
