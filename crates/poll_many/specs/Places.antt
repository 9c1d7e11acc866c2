-- What is known of places for sessions, and what a step makes of one; no public clause cites this.
use Rattle.std.specs.Prelude.{◌≡◌, ◌≢◌, ◌⊎◌, ℕ, Bool, true, false, List, [], ◌∷◌, None, Some}
use Rattle.std.specs.List.{AllByRecursion, flat_map}
use Rattle.version_tree.specs.declared.entry.Entry.{Entry}
use Rattle.nav_io.specs.Told.{append_told, HasOut}
use Rattle.nav_poll.specs.Links.{NoneFell}
use Rattle.nav_poll.specs.Polling.{StandsFor, seen, start_at}
use Rattle.poll_many.specs.Connections.{Outside, Connection, IsServed}
use Rattle.poll_many.specs.declared.place.Asked.{Asked}
use Rattle.poll_many.specs.declared.place.Asked.TheVariants.{Unasked, Given, NotYet, Failed}
use Rattle.poll_many.specs.declared.place.Open.{Open}
use Rattle.poll_many.specs.declared.place.Place.{Place}
use Rattle.poll_many.specs.declared.place.Place.TheVariants.{Free, Busy, Lost, Away}
use Rattle.poll_many.specs.declared.place.Turn.{Turn}
use Rattle.poll_many.specs.declared.place.Turn.TheVariants.{Waits, Ended}

-- the session stands for its start: that of the seat as it was and of the link as it was given out
pub record IsOpen {P B K : Type 0} (o : Outside P B K) (s : Open B K) : Type 0 where
  pub stands : StandsFor
      (start_at (o.seat s.before.value) (o.log s.before.value) (o.held s.given.value) (o.left s.given.value))
      (seen o.seat o.log o.pin o.left o.held s.polled)
  pub seat : o.seat s.polled.board ≡ o.seat s.before.value
  pub going : s.polled.ended ≡ None
  pub counts : NoneFell (o.counts s.given.value) (o.counts s.polled.link)

-- something stands there, and its session stands for its start
abbrev pub IsStanding : {P B K : Type 0} → Outside P B K → Place B K → Type 0
IsStanding o (Free desk board) = Unit {0}
IsStanding o (Busy s) = IsOpen o s
IsStanding o (Lost board) = Unit {0}
IsStanding o Away = ⊥

-- the seat of the place, and what it had seen of the log when its last session ended
abbrev pub seat_at : {P B K : Type 0} → Outside P B K → Place B K → ℕ
seat_at o (Free desk board) = o.seat board
seat_at o (Busy s) = o.seat s.before.value
seat_at o (Lost board) = o.seat board
seat_at o Away = 0

abbrev pub log_at : {P B K : Type 0} → Outside P B K → Place B K → List Entry
log_at o (Free desk board) = o.log board
log_at o (Busy s) = o.log s.before.value
log_at o (Lost board) = o.log board
log_at o Away = []

-- the link of its session as it was given out, or none
abbrev pub open_at : {B K : Type 0} → Place B K → List K
open_at (Free desk board) = []
open_at (Busy s) = s.given.value ∷ []
open_at (Lost board) = []
open_at Away = []

abbrev pub is_lost : {B K : Type 0} → Place B K → Bool
is_lost (Free desk board) = false
is_lost (Busy s) = false
is_lost (Lost board) = true
is_lost Away = false

abbrev pub is_free : {B K : Type 0} → Place B K → Bool
is_free (Free desk board) = true
is_free (Busy s) = false
is_free (Lost board) = false
is_free Away = false

abbrev pub is_busy : {B K : Type 0} → Place B K → Bool
is_busy (Free desk board) = false
is_busy (Busy s) = true
is_busy (Lost board) = false
is_busy Away = false

-- the links of all open sessions, as they were given out
abbrev pub open_links : {B K : Type 0} → List (Place B K) → List K
open_links places = flat_map open_at places

-- the place has the seat that it had, and that seat's sessions so far, and lost it if it had lost it
pub record KeepsSeat {P B K : Type 0} (o : Outside P B K) (p p' : Place B K) : Type 0 where
  pub standing : IsStanding o p'
  pub seat : seat_at o p' ≡ seat_at o p
  pub lost : is_lost p ≡ true → is_lost p' ≡ true

-- the place is as far as it was, and neither took a link nor gave one back
pub record Stays {P B K : Type 0} (o : Outside P B K) (p p' : Place B K) (port port' : P) : Type 0 where
  pub keeps : KeepsSeat o p p'
  pub same_log : log_at o p' ≡ log_at o p
  pub same_link : open_at p' ≡ open_at p
  pub same_given : o.gave port' ≡ o.gave port
  pub same_back : o.got_back port' ≡ o.got_back port

-- a link was given out, with which a session began
pub record Begins {P B K : Type 0} (o : Outside P B K) (p p' : Place B K) (port port' : P) : Type 0 where
  pub keeps : KeepsSeat o p p'
  pub link : K
  pub same_log : log_at o p' ≡ log_at o p
  pub no_link : open_at p ≡ []
  pub new_link : open_at p' ≡ link ∷ []
  pub gave : o.gave port' ≡ append_told (o.gave port) (link ∷ [])
  pub out : HasOut (o.gave port') (o.got_back port') 1
  pub same_back : o.got_back port' ≡ o.got_back port

-- a connection of the place's seat is over, and its link came back
pub record IsOver {P B K : Type 0} (o : Outside P B K) (p p' : Place B K) (c : Connection K) : Type 0 where
  pub served : IsServed o c
  pub seat : c.seat ≡ seat_at o p
  pub before : c.before ≡ log_at o p
  pub after : c.after ≡ log_at o p'
  pub no_link : open_at p' ≡ []
  pub lost : c.status ≡ Some 5 → is_lost p' ≡ true

-- the session of the place ended, or was broken off, and its link came back
pub record Ends {P B K : Type 0} (o : Outside P B K) (p p' : Place B K) (port port' : P) (c : Connection K) : Type 0 where
  pub keeps : KeepsSeat o p p'
  pub over : IsOver o p p' c
  pub link : open_at p ≡ c.given ∷ []
  pub same_given : o.gave port' ≡ o.gave port
  pub got_back : o.got_back port' ≡ append_told (o.got_back port) (c.back ∷ [])

-- a link was given out, for which no session could be made, and came back; the seat is lost
pub record Starves {P B K : Type 0} (o : Outside P B K) (p p' : Place B K) (port port' : P) (c : Connection K) : Type 0 where
  pub keeps : KeepsSeat o p p'
  pub over : IsOver o p p' c
  pub no_link : open_at p ≡ []
  pub told : c.status ≡ Some 5
  pub out : HasOut (append_told (o.gave port) (c.given ∷ [])) (o.got_back port) 1
  pub gave : o.gave port' ≡ append_told (o.gave port) (c.given ∷ [])
  pub got_back : o.got_back port' ≡ append_told (o.got_back port) (c.back ∷ [])

-- A link that was out began a session of the seat, or came back and lost the seat for want of memory.
abbrev pub BeginsWith : {P B K : Type 0} → Outside P B K → B → K → Place B K → P → P → Type 0
BeginsWith o board link p' port port' =
    (o.gave port' ≡ o.gave port) × (IsStanding o p') × (seat_at o p' ≡ o.seat board) × (log_at o p' ≡ o.log board)
    × (((open_at p' ≡ link ∷ []) × (o.got_back port' ≡ o.got_back port))
    ⊎ ((is_lost p' ≡ true) × (open_at p' ≡ []) × (o.got_back port' ≡ append_told (o.got_back port) (link ∷ []))))

-- what came of asking a port for a link for the place
abbrev pub TakesLink : {P B K : Type 0} → Outside P B K → Place B K → Place B K → P → P → Asked → Type 0
TakesLink o p p' port port' Unasked = Stays o p p' port port'
TakesLink o p p' port port' NotYet = Stays o p p' port port'
TakesLink o p p' port port' Failed = Stays o p p' port port'
TakesLink o p p' port port' Given =
    Begins o p p' port port' ⊎ ((c : Connection _) × Starves o p p' port port' c)

-- what came of the turn of a place
abbrev pub TakesTurn : {P B K : Type 0} → Outside P B K → Place B K → Place B K → P → P → Turn → Type 0
TakesTurn o p p' port port' Waits = Stays o p p' port port'
TakesTurn o p p' port port' Ended = (c : Connection _) × Ends o p p' port port' c × (c.status ≢ None)

-- the session of the place, if it had one, was broken off
abbrev pub Closes : {P B K : Type 0} → Outside P B K → Place B K → Place B K → P → P → Type 0
Closes o p p' port port' = Stays o p p' port port' ⊎ ((c : Connection _) × Ends o p p' port port' c)

-- the seats of places at which none is at work
abbrev pub board_at : {B K : Type 0} → Place B K → List B
board_at (Free desk board) = board ∷ []
board_at (Busy s) = []
board_at (Lost board) = board ∷ []
board_at Away = []

abbrev pub boards_of : {B K : Type 0} → List (Place B K) → List B
boards_of places = flat_map board_at places

-- all places are free
abbrev pub AllFree : {B K : Type 0} → List (Place B K) → Type 0
AllFree places = AllByRecursion (λ (p : Place _ _). is_free p ≡ true) places
