-- What is known while the links of a port are served; no public clause cites this.
use Rattle.std.specs.Prelude.{◌≡◌, ◌≢◌, ◌⊎◌, ℕ, ◌+◌, ◌-◌, ◌<◌, ◌≤◌, false, IsTrue, List, [], ◌++◌, length, slice_get, Some}
use Rattle.std.specs.List.{AllByRecursion}
use Rattle.std.specs.List.Sorted.{IsPermutation}
use Rattle.nav_io.specs.Faults.{HasRisen}
use Rattle.nav_io.specs.Told.{append_told, HasOut}
use Rattle.poll_many.specs.Connections.{Outside, Connection, IsServed, FollowEachOther, HaveMemory, of_seat, links_given, links_back, broken_off, ends_port}
use Rattle.poll_many.specs.Places.{IsStanding, seat_at, log_at, open_links, boards_of, is_lost, is_free, is_busy}
use Rattle.poll_many.specs.declared.place.Asked.{Asked}
use Rattle.poll_many.specs.declared.place.Asked.TheVariants.{Unasked, Given, NotYet, Failed}
use Rattle.poll_many.specs.declared.place.Place.{Place}
use Rattle.poll_many.specs.declared.call.Call.{Call}

-- at each place it is so
abbrev pub EachPlace : {B K : Type 0} → (Place B K → Type 0) → List (Place B K) → Type 0
EachPlace {B} {K} P places = (n : ℕ) (p : Place B K) → slice_get places n ≡ Some p → P p

-- no seat is lost; no session is open; no seat is free
abbrev pub NoneLost : {B K : Type 0} → List (Place B K) → Type 0
NoneLost places = EachPlace (λ p. is_lost p ≡ false) places

abbrev pub NoneBusy : {B K : Type 0} → List (Place B K) → Type 0
NoneBusy places = EachPlace (λ p. is_busy p ≡ false) places

abbrev pub NoneFree : {B K : Type 0} → List (Place B K) → Type 0
NoneFree places = EachPlace (λ p. is_free p ≡ false) places

-- Since the call connections were served, at most so many of which were broken off, and so many links are wanted still.
-- Each link that was given out came back with one of them, or is that of an open session. At each place stands the seat of
-- that name, whose sessions followed each other.
pub record IsUnderWay {P B K : Type 0} (o : Outside P B K) (call : Call P B) (cut wanted : ℕ) (port : P) (places : List (Place B K)) : Type 0 where
  pub over : List (Connection K)
  pub served : AllByRecursion (IsServed o) over
  pub got_back : o.got_back port ≡ append_told (o.got_back call.port.value) (links_back over)
  pub given : List K
  pub gave : o.gave port ≡ append_told (o.gave call.port.value) given
  pub all_back : IsPermutation given (links_given over ++ open_links places)
  pub so_many : length given + wanted ≡ call.most
  pub room : (given ≡ []) ⊎ HasOut (o.gave call.port.value) (o.got_back call.port.value) 0
  pub all_places : length places ≡ length call.seats.value.items
  pub standing : (n : ℕ) (p : Place B K) → slice_get places n ≡ Some p → IsStanding o p × (seat_at o p ≡ n)
  pub follow : (n : ℕ) (seat : B) (p : Place B K) → slice_get call.seats.value.items n ≡ Some seat → slice_get places n ≡ Some p
      → FollowEachOther (o.log seat) (of_seat n over) (log_at o p)
  pub of_seats : AllByRecursion (λ (c : Connection K). c.seat < length call.seats.value.items) over
  pub broken : length (broken_off over) ≤ cut
  pub memory : NoneLost places → HaveMemory over
  pub count : o.faults call.port.value ≤ o.faults port

-- A part of a round was gone: the rounds are under way, with so many links wanted still, at as many places as before, and the
-- port's count didn't fall.
pub record GoesRound {P B K : Type 0} (o : Outside P B K) (call : Call P B) (wanted : ℕ) (port port' : P)
    (places places' : List (Place B K)) : Type 0 where
  pub under_way : IsUnderWay o call 0 wanted port' places'
  pub len : length places' ≡ length places
  pub count : o.faults port ≤ o.faults port'

-- how many links are wanted still, after one was asked for
abbrev pub still_wanted : Asked → ℕ → ℕ
still_wanted Unasked wanted = wanted
still_wanted Given wanted = wanted - 1
still_wanted NotYet wanted = wanted
still_wanted Failed wanted = wanted

-- the sessions are over: none is open, and no link is wanted or no seat is left
pub record AreOver {B K : Type 0} (wanted : ℕ) (places : List (Place B K)) : Type 0 where
  pub none_busy : NoneBusy places
  pub none_wanted : (wanted ≡ 0) ⊎ NoneFree places

-- the sessions are over, with that status
pub record AreFinished {P B K : Type 0} (o : Outside P B K) (call : Call P B) (port : P) (places : List (Place B K)) (status : ℕ) : Type 0 where
  pub cut : ℕ
  pub wanted : ℕ
  pub under_way : IsUnderWay o call cut wanted port places
  pub few : cut ≤ length places
  pub rest : NoneBusy places
  pub ends : IsTrue (ends_port status)
  pub all : status ≡ 0 → (wanted ≡ 0) × (cut ≡ 0)
  pub memory : status ≢ 5 → NoneLost places
  pub failed : status ≡ 8 → HasRisen (o.faults call.port.value) (o.faults port)

-- the seats stand in the order of their names
abbrev pub AreNamed : {B : Type 0} → (B → ℕ) → List B → Type 0
AreNamed {B} seat seats = (n : ℕ) (one : B) → slice_get seats n ≡ Some one → seat one ≡ n

-- memory was refused before any link was asked for
pub record IsRefused {P B : Type 0} (port port' : P) (seats seats' : List B) (status : ℕ) : Type 0 where
  pub told : status ≡ 5
  pub same_port : port' ≡ port
  pub same_seats : seats' ≡ seats

-- the sessions of these seats are over, with that status, and the seats are as they left them
pub record AreServed {P B K : Type 0} (o : Outside P B K) (most : ℕ) (port port' : P) (seats seats' : List B) (status : ℕ) : Type 0 where
  pub call : Call P B
  pub most_is : call.most ≡ most
  pub port_is : call.port.value ≡ port
  pub seats_are : call.seats.value.items ≡ seats
  pub places : List (Place B K)
  pub finished : AreFinished o call port' places status
  pub left : seats' ≡ boards_of places

abbrev pub ServesAll : {P B K : Type 0} → Outside P B K → ℕ → P → P → List B → List B → ℕ → Type 0
ServesAll o most port port' seats seats' status = IsRefused port port' seats seats' status ⊎ AreServed o most port port' seats seats' status

-- at the first n places no session is open
abbrev pub RestBefore : {B K : Type 0} → ℕ → List (Place B K) → Type 0
RestBefore {B} {K} n places = (k : ℕ) (p : Place B K) → k < n → slice_get places k ≡ Some p → is_busy p ≡ false
