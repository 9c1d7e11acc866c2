-- What serving the links of a port for the seats of a board did.
use Rattle.std.specs.Prelude.{◌≡◌, ◌≢◌, ℕ, ◌<◌, ◌≤◌, IsTrue, List, [], length, slice_get, None, Some}
use Rattle.std.specs.List.{AllByRecursion}
use Rattle.std.specs.List.Sorted.{IsPermutation}
use Rattle.version_tree.specs.declared.entry.Entry.{Entry}
use Rattle.nav_io.specs.Faults.{HasRisen}
use Rattle.nav_io.specs.Told.{append_told}
use Rattle.shared_board.specs.Seats.{Holder, IsLogOfAll}
use Rattle.poll_many.specs.Connections.{Outside, Connection, HasNoFault, IsServed, IsAnswered, FollowEachOther, HaveMemory, of_seat, links_given, links_back, broken_off, ends_port}

-- The port gave out links, at most so many, each of which was served for one of the seats and came back.
pub record ServesPort {P K : Type 0} (o : Outside P Holder K) (most : ℕ) (port port' : P) (seats : List Holder) (status : ℕ) : Type 0 where
  -- these connections, in the order in which their links came back
  pub over : List (Connection K)
  pub served : AllByRecursion (IsServed o) over
  pub got_back : o.got_back port' ≡ append_told (o.got_back port) (links_back over)
  -- the links that the port gave out are theirs
  pub given : List K
  pub gave : o.gave port' ≡ append_told (o.gave port) given
  pub all_back : IsPermutation given (links_given over)
  pub few : length given ≤ most
  -- the seats as they were when the sessions were over: the sessions of each followed each other
  pub ended : List Holder
  pub all_seats : length ended ≡ length seats
  pub names : (n : ℕ) (seat seat' : Holder) → slice_get seats n ≡ Some seat → slice_get ended n ≡ Some seat' → seat'.seat ≡ seat.seat
  pub of_seats : AllByRecursion (λ (c : Connection K). c.seat < length seats) over
  pub follow : (n : ℕ) (seat seat' : Holder) → slice_get seats n ≡ Some seat → slice_get ended n ≡ Some seat'
      → FollowEachOther seat.log (of_seat seat.seat over) seat'.log
  -- with another status than 5 there is a log of them all
  pub one_log : status ≢ 5 → (log : List Entry) × IsLogOfAll ended log
  pub ends : IsTrue (ends_port status)
  -- with 0 there were as many links as were asked for, and none was broken off
  pub all : status ≡ 0 → length given ≡ most
  pub whole : status ≡ 0 → broken_off over ≡ []
  -- with any status at most one for each seat was broken off
  pub broken : length (broken_off over) ≤ length seats
  -- with another status than 5 no session was refused memory
  pub memory : status ≢ 5 → HaveMemory over
  -- nor was one cut short that ended, and on whose link no count of faults rose
  pub answered : status ≢ 5 → AllByRecursion
      (λ (c : Connection K). c.status ≢ None → HasNoFault (o.counts c.given) (o.counts c.back) → IsAnswered o c) over
  -- with 8 the port failed
  pub failed : status ≡ 8 → HasRisen (o.faults port) (o.faults port')
  pub count : o.faults port ≤ o.faults port'
