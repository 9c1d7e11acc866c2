-- What a door's loop does in one turn, and what is kept of a door while all are served; no public clause cites this.
use Rattle.std.specs.Prelude.{◌≡◌, ℕ, ◌≤◌, List, [], ◌∷◌, map}
use Rattle.version_tree.specs.declared.entry.Entry.{Entry}
use Rattle.nav_io.specs.Faults.{HasRisen}
use Rattle.nav_io.specs.Told.{append_told}
use Rattle.nav_session.specs.Serving.{Standing}
use Rattle.nav_doors.specs.Connections.{Outside, Connection, IsServed}
use Rattle.nav_doors.specs.Doors.{ServesFromEmptyDesk}
use Rattle.nav_doors.specs.declared.place.Place.{Place}

-- the next connection was given out and served, and came back
pub record ServesNext {D S K : Type 0} (o : Outside D S K) (seat : ℕ) (door door' : D) (was is : Standing) (status : ℕ) : Type 0 where
  pub next : Connection S K
  pub served : IsServed o seat next
  pub gave : o.gave door' ≡ append_told (o.gave door) (next.given ∷ [])
  pub got_back : o.got_back door' ≡ append_told (o.got_back door) (next.back ∷ [])
  pub before : next.before ≡ was
  pub after : next.after ≡ is
  pub told : next.status ≡ status
  pub count : o.faults door ≤ o.faults door'

-- the door failed in place of a connection
pub record FailsNext {D S K : Type 0} (o : Outside D S K) (door door' : D) (before after : Standing) : Type 0 where
  pub gave : o.gave door' ≡ o.gave door
  pub got_back : o.got_back door' ≡ o.got_back door
  pub same : after ≡ before
  pub failed : HasRisen (o.faults door) (o.faults door')
  pub count : o.faults door ≤ o.faults door'

-- the doors, the seats and the statuses of places
abbrev pub doors_of : {D B : Type 0} → List (Place D B) → List D
doors_of places = map (λ p. p.door) places

abbrev pub seats_of : {D B : Type 0} → List (Place D B) → List B
seats_of places = map (λ p. p.seat) places

abbrev pub statuses_of : {D B : Type 0} → List (Place D B) → List ℕ
statuses_of places = map (λ p. p.status) places

-- the place's door was served for its seat, which keeps its name, on a desk that keeps so much
pub record ServesPlace {D S K B : Type 0} (o : Outside D S K) (name : B → ℕ) (log : B → List Entry) (keeps most : ℕ) (p q : Place D B) : Type 0 where
  pub door : ServesFromEmptyDesk o (name p.seat) keeps most p.door q.door (log p.seat) (log q.seat) q.status
  pub seat : name q.seat ≡ name p.seat
