-- What serving the doors of a house did: it was asked for doors, each was served for a seat of one new board, and all
-- went back to it.
use Rattle.std.specs.Prelude.{◌≡◌, ◌⊎◌, ℕ, ◌≤◌, List, [], length, slice_get, Option, Some, IsTrue}
use Rattle.nav_io.specs.Faults.{HasRisen}
use Rattle.nav_io.specs.Told.{append_told}
use Rattle.shared_board.specs.Seats.{Holder, AreNewcomers}
use Rattle.nav_doors.specs.Connections.{Outside, ends_doors}
use Rattle.nav_doors.specs.Doors.{ServesTied, IsRefused}

-- what is seen of a house at one moment: the doors that it gave out and those that it got back, where it tells them, and
-- how many faults it has had
pub record House (D : Type 0) : Type 0 where
  pub gave : Option (List D)
  pub got_back : Option (List D)
  pub faults : ℕ

-- the house that gave and got back these, with so many faults
abbrev pub house_with : {D : Type 0} → Option (List D) → Option (List D) → ℕ → House D
house_with gave got_back faults = record { gave = gave; got_back = got_back; faults = faults }

-- of these doors, as they were and as they are, one failed where it was asked for a connection
pub record OneFailed {D S K : Type 0} (o : Outside D S K) (doors doors' : List D) : Type 0 where
  pub place : ℕ
  pub door : D
  pub door' : D
  pub was : slice_get doors place ≡ Some door
  pub is : slice_get doors' place ≡ Some door'
  pub failed : HasRisen (o.faults door) (o.faults door')

-- As many doors as were asked for were served for the seats of one board, whose log was empty; or memory was refused
-- before any of them was asked for a connection.
pub record ServesOneBoard {D S K : Type 0} (o : Outside D S K) (count most : ℕ) (doors doors' : List D) (status : ℕ) : Type 0 where
  pub all : length doors ≡ count
  pub seats : List Holder
  pub seats' : List Holder
  pub new : AreNewcomers count seats
  pub served : ServesTied o most doors doors' seats seats' status ⊎ IsRefused doors doors' seats seats' status

-- the house gave out no door: it failed, or memory was refused
pub record OpensNone {D : Type 0} (house house' : House D) (doors doors' : List D) (status : ℕ) : Type 0 where
  pub none : doors ≡ []
  pub none_back : doors' ≡ []
  pub why : ((status ≡ 8) × HasRisen house.faults house'.faults) ⊎ (status ≡ 5)

-- The house gave out doors and got them back, in that order, after they were served.
pub record ServesHouse {D S K : Type 0} (o : Outside D S K) (count most : ℕ) (house house' : House D) (status : ℕ) : Type 0 where
  pub doors : List D
  pub doors' : List D
  pub gave : house'.gave ≡ append_told house.gave doors
  pub got_back : house'.got_back ≡ append_told house.got_back doors'
  pub served : OpensNone house house' doors doors' status ⊎ ServesOneBoard o count most doors doors' status
  pub ends : IsTrue (ends_doors status)
  -- with 8 the house failed, or one of its doors did
  pub failed : status ≡ 8 → HasRisen house.faults house'.faults ⊎ OneFailed o doors doors'
  -- the house's count doesn't fall
  pub count_stays : house.faults ≤ house'.faults
