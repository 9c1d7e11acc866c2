-- Which board it is, what a contract sees of a seat, and what is known of all seats of a board together.
use Rattle.std.specs.Prelude.{◌≡◌, ℕ, ◌-◌, ◌<◌, ◌≤◌, List, [], length, slice_get, Option, None, Some}
use Rattle.std.specs.Option.{option_map_or}
use Rattle.logbook.specs.Pages.{Book}
use Rattle.version_tree.specs.declared.entry.Entry.{Entry}
use Rattle.version_board.specs.Logs.{own, Begins, IsLater}

-- how many seats a board may have
abbrev pub max_seats : ℕ
max_seats = 32

-- a board: the book of its log, and how many seats it has
pub record Board : Type 0 where
  pub book : Book
  pub seats : ℕ

-- a seat: the log that it has seen, its name, and how many of the first entries make its pinned version
pub record Holder : Type 0 where
  pub log : List Entry
  pub seat : ℕ
  pub pin : ℕ

-- a seat that has seen nothing
abbrev pub newcomer : ℕ → Holder
newcomer seat = record { log = []; seat = seat; pin = 0 }

-- as many seats, in the order of their names, that have seen nothing
pub record AreNewcomers (count : ℕ) (seats : List Holder) : Type 0 where
  pub all : length seats ≡ count
  pub each : (seat : ℕ) → seat < count → slice_get seats seat ≡ Some (newcomer seat)

-- these are all seats of a board, in the order of their names
pub record AreSeats (count : ℕ) (seats : List Holder) : Type 0 where
  pub all : length seats ≡ count
  pub names : (seat : ℕ) (holder : Holder) → slice_get seats seat ≡ Some holder → holder.seat ≡ seat

-- the seat has at most seen more, and nothing more of its own
pub record HasLearnt (before after : Holder) : Type 0 where
  pub seat : after.seat ≡ before.seat
  pub pin : after.pin ≡ before.pin
  pub later : IsLater before.seat before.log after.log

-- that of each seat
pub record HaveLearnt (before after : List Holder) : Type 0 where
  pub all : length after ≡ length before
  pub each : (n : ℕ) (old new : Holder) → slice_get before n ≡ Some old → slice_get after n ≡ Some new → HasLearnt old new

-- the log that the last of these has seen
abbrev pub last_log : List Holder → List Entry
last_log seats = option_map_or (λ (holder : Holder). holder.log) (slice_get seats (length seats - 1)) []

-- the log begins with what each of these seats had seen, which had all entries of its own; and each entry has the name
-- of one of them
pub record IsLogOfAll (seats : List Holder) (log : List Entry) : Type 0 where
  pub begins : (seat : ℕ) (holder : Holder) → slice_get seats seat ≡ Some holder → Begins holder.log log
  pub own_seen : (seat : ℕ) (holder : Holder) → slice_get seats seat ≡ Some holder → own seat log ≡ own seat holder.log
  pub named : (seat : ℕ) → length seats ≤ seat → own seat log ≡ []

-- the first entries that are pinned: those that are held, or all
abbrev pub pinned_log : Option (List Entry) → List Entry → List Entry
pinned_log None log = log
pinned_log (Some held) log = held
