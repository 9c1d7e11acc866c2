-- What serving the one port of a yard did: it was asked for the port, the port's links were served for the seats of one new
-- board, and the port went back to it.
use Rattle.std.specs.Prelude.{◌≡◌, ◌⊎◌, ℕ, ◌≤◌, IsTrue, List, [], ◌∷◌, Option}
use Rattle.nav_io.specs.Faults.{HasRisen}
use Rattle.nav_io.specs.Told.{append_told}
use Rattle.shared_board.specs.Seats.{Holder, AreNewcomers}
use Rattle.poll_many.specs.Connections.{Outside, ends_port}
use Rattle.poll_many.specs.Ports.{ServesPort}
use Rattle.poll_many.specs.Settling.{SettlesBehindRounds}
use Rattle.poll_many.specs.declared.yard.Yard as yards

-- what is seen of a yard at one moment: the ports that it gave out and those that it got back, where it tells them, and how
-- many faults it has had
pub record Yard (P : Type 0) : Type 0 where
  pub gave : Option (List P)
  pub got_back : Option (List P)
  pub faults : ℕ

-- what is seen of a yard, by what its trait tells
abbrev pub yard_at : {Y P K : Type 0} → yards.Ghosts Y P K → Y → Yard P
yard_at g yard = record { gave = g.gave yard; got_back = g.got_back yard; faults = g.faults yard }

-- the yard gave out no port: it failed, or memory was refused
pub record OpensNone {P : Type 0} (yard yard' : Yard P) (status : ℕ) : Type 0 where
  pub same_given : yard'.gave ≡ yard.gave
  pub same_back : yard'.got_back ≡ yard.got_back
  pub why : ((status ≡ 8) × HasRisen yard.faults yard'.faults) ⊎ (status ≡ 5)

-- the yard gave out one port and got it back, after its links were served for so many seats that had seen nothing
pub record ServesOne {P K : Type 0} (o : Outside P Holder K) (count most : ℕ) (yard yard' : Yard P) (status : ℕ) : Type 0 where
  pub port : P
  pub port' : P
  pub gave : yard'.gave ≡ append_told yard.gave (port ∷ [])
  pub got_back : yard'.got_back ≡ append_told yard.got_back (port' ∷ [])
  pub seats : List Holder
  pub new : AreNewcomers count seats
  pub served : ServesPort o most port port' seats status
  pub settled : SettlesBehindRounds o port port'

-- what was done for a yard by so many seats and for at most so many links
pub record ServesYard {P K : Type 0} (o : Outside P Holder K) (count most : ℕ) (yard yard' : Yard P) (status : ℕ) : Type 0 where
  pub served : OpensNone yard yard' status ⊎ ServesOne o count most yard yard' status
  pub ends : IsTrue (ends_port status)
  -- the yard's count doesn't fall
  pub count_stays : yard.faults ≤ yard'.faults
