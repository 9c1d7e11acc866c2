-- What all doors did in a call, each for its seat.
use Rattle.std.specs.Prelude.{◌≡◌, ◌≢◌, ℕ, Bool, ◌==◌, List, [], length, slice_get, Some, if◌then◌else◌}
use Rattle.std.specs.List.{list_any}
use Rattle.version_tree.specs.declared.entry.Entry.{Entry}
use Rattle.shared_board.specs.Seats.{Holder, HaveLearnt, IsLogOfAll, last_log}
use Rattle.nav_session.specs.Desks.{share}
use Rattle.nav_session.specs.Serving.{Standing}
use Rattle.nav_doors.specs.Connections.{Outside, ServesDoor}

-- 5 where memory was refused somewhere, else 8 where a door failed, else 0
abbrev pub worst : Bool → Bool → ℕ
worst refused failed = if refused then 5 else (if failed then 8 else 0)

-- the status of doors with these statuses
abbrev pub status_of_all : List ℕ → ℕ
status_of_all told = worst (list_any (λ status. status == 5) told) (list_any (λ status. status == 8) told)

-- A door was served on a desk that had no documents at first, and keeps so much.
pub record ServesFromEmptyDesk {D S K : Type 0} (o : Outside D S K) (seat keeps most : ℕ) (door door' : D) (log log' : List Entry) (status : ℕ) : Type 0 where
  pub after : Standing
  pub served : ServesDoor o seat most door door' (record { log = log; store = []; keeps = keeps }) after status
  pub seen : after.log ≡ log'

-- Each door was served for the seat at its place, which keeps its name, on a desk of its own, which has its part of what
-- the desks of all doors keep together. A seat is seen by its name and the log that it has seen.
pub record ServesDoors {D S K B : Type 0} (o : Outside D S K) (name : B → ℕ) (log : B → List Entry) (most : ℕ) (doors doors' : List D) (seats seats' : List B) (result : ℕ) : Type 0 where
  pub told : List ℕ
  pub all_told : length told ≡ length doors
  pub all_doors : length doors' ≡ length doors
  pub all_seats : length seats' ≡ length seats
  pub each : (n : ℕ) (door door' : D) (seat seat' : B) (status : ℕ) → slice_get doors n ≡ Some door
      → slice_get doors' n ≡ Some door' → slice_get seats n ≡ Some seat → slice_get seats' n ≡ Some seat'
      → slice_get told n ≡ Some status
      → ServesFromEmptyDesk o (name seat) (share (length doors)) most door door' (log seat) (log seat') status
  pub names : (n : ℕ) (seat seat' : B) → slice_get seats n ≡ Some seat → slice_get seats' n ≡ Some seat' → name seat' ≡ name seat
  pub status : result ≡ status_of_all told

-- Each door was served for its seat, and then the seats were brought together. With another status than 5 what the last
-- seat has seen then is the log of all seats, as they were when their doors' loops ended.
pub record ServesTied {D S K : Type 0} (o : Outside D S K) (most : ℕ) (doors doors' : List D) (seats seats' : List Holder) (result : ℕ) : Type 0 where
  pub ended : List Holder
  pub looped : ℕ
  pub served : ServesDoors o (λ (h : Holder). h.seat) (λ (h : Holder). h.log) most doors doors' seats ended looped
  pub learnt : HaveLearnt ended seats'
  pub no_memory : looped ≡ 5 → result ≡ 5
  pub same_status : result ≢ 5 → result ≡ looped
  pub one_log : result ≢ 5 → IsLogOfAll ended (last_log seats')

-- memory was refused before any door was asked for a connection
pub record IsRefused {D : Type 0} (doors doors' : List D) (seats seats' : List Holder) (result : ℕ) : Type 0 where
  pub told : result ≡ 5
  pub same_doors : doors' ≡ doors
  pub same_seats : seats' ≡ seats
