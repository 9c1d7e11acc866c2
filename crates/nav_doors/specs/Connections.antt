-- What a door did in a call: the connections that it gave out, each of which was served and came back.
use Rattle.std.specs.Prelude.{◌≡◌, ◌≢◌, ℕ, ◌<◌, ◌≤◌, Bool, ◌||◌, ◌==◌, IsTrue, List, [], ◌∷◌, ◌++◌, length, map, slice_get, Option, Some}
use Rattle.std.specs.List.{AllByRecursion}
use Rattle.version_board.specs.Logs.{Begins}
use Rattle.nav_io.specs.Faults.{HasRisen}
use Rattle.nav_io.specs.Told.{append_told}
use Rattle.nav_session.specs.Serving.{ServesAtDesk, Standing, ends_session, ends_unhindered}

-- what is read of doors, and of the sources and sinks that they give out
pub record Outside (D S K : Type 0) : Type 0 where
  pub gave : D → Option (List (S × K))
  pub got_back : D → Option (List (S × K))
  pub faults : D → ℕ
  pub left : S → Option (List ℕ)
  pub source_faults : S → ℕ
  pub held : K → Option (List ℕ)
  pub sink_faults : K → ℕ

-- what is read of them, by these functions
abbrev pub outside : {D S K : Type 0} → (D → Option (List (S × K))) → (D → Option (List (S × K))) → (D → ℕ)
    → (S → Option (List ℕ)) → (S → ℕ) → (K → Option (List ℕ)) → (K → ℕ) → Outside D S K
outside gave got_back faults left source_faults held sink_faults = record {
  gave = gave;
  got_back = got_back;
  faults = faults;
  left = left;
  source_faults = source_faults;
  held = held;
  sink_faults = sink_faults;
}

-- a connection: its pair as it was given out and as it came back, what its door's seat had seen, and the desk kept, before
-- it and after it, and the status with which it ended
pub record Connection (S K : Type 0) : Type 0 where
  pub given : S × K
  pub back : S × K
  pub before : Standing
  pub after : Standing
  pub status : ℕ

-- the connection was served, as one session of the seat
pub record IsServed {D S K : Type 0} (o : Outside D S K) (seat : ℕ) (c : Connection S K) : Type 0 where
  pub session : ServesAtDesk seat c.before c.after (o.left c.given.0) (o.left c.back.0) (o.held c.given.1) (o.held c.back.1) c.status
  pub ends : IsTrue (ends_session c.status)
  pub source_failed : c.status ≡ 3 → HasRisen (o.source_faults c.given.0) (o.source_faults c.back.0)
  pub sink_failed : c.status ≡ 4 → HasRisen (o.sink_faults c.given.1) (o.sink_faults c.back.1)
  pub unhindered : ¬ HasRisen (o.source_faults c.given.0) (o.source_faults c.back.0)
      → ¬ HasRisen (o.sink_faults c.given.1) (o.sink_faults c.back.1) → IsTrue (ends_unhindered c.status)
  pub source_count : o.source_faults c.given.0 ≤ o.source_faults c.back.0
  pub sink_count : o.sink_faults c.given.1 ≤ o.sink_faults c.back.1

-- Connections were served one after the other. The first begins with what stood there, and each further one with what the
-- one before it left: what the seat had seen, and the documents of the desk, so all are on one desk.
abbrev pub AreServed : {D S K : Type 0} → Outside D S K → ℕ → Standing → List (Connection S K) → Standing → Type 0
AreServed o seat before [] after = after ≡ before
AreServed o seat before (c ∷ cs) after = (c.before ≡ before) × IsServed o seat c × AreServed o seat c.after cs after

-- what was seen at first begins the log before each connection, that begins the one after it, and that the last one
abbrev pub ConnectionsLieOnOneLog : {D S K : Type 0} → Outside D S K → Type 0
ConnectionsLieOnOneLog {D} {S} {K} o =
    (seat n : ℕ) (before after : Standing) (cs : List (Connection S K)) (c : Connection S K) → AreServed o seat before cs after
    → slice_get cs n ≡ Some c → Begins before.log c.before.log × Begins c.before.log c.after.log × Begins c.after.log after.log

-- the pairs of connections as they were given out, the pairs as they came back, and their statuses
abbrev pub pairs_given : {S K : Type 0} → List (Connection S K) → List (S × K)
pairs_given cs = map (λ c. c.given) cs

abbrev pub pairs_back : {S K : Type 0} → List (Connection S K) → List (S × K)
pairs_back cs = map (λ c. c.back) cs

abbrev pub statuses : {S K : Type 0} → List (Connection S K) → List ℕ
statuses cs = map (λ c. c.status) cs

-- none of these statuses tells that memory was refused
abbrev pub HaveMemory : List ℕ → Type 0
HaveMemory told = AllByRecursion (λ (status : ℕ). status ≢ 5) told

-- whether the status is one with which a door's loop, or the loops of all doors, may end
abbrev pub ends_doors : ℕ → Bool
ends_doors status = status == 0 || status == 5 || status == 8

-- A door gave out connections, at most so many. Each was served for the seat and came back, in their order.
pub record ServesDoor {D S K : Type 0} (o : Outside D S K) (seat most : ℕ) (door door' : D) (before after : Standing) (status : ℕ) : Type 0 where
  pub served : List (Connection S K)
  pub gave : o.gave door' ≡ append_told (o.gave door) (pairs_given served)
  pub got_back : o.got_back door' ≡ append_told (o.got_back door) (pairs_back served)
  pub in_order : AreServed o seat before served after
  pub ends : IsTrue (ends_doors status)
  -- with 0 there were as many as were asked for
  pub all : status ≡ 0 → length served ≡ most
  -- with 8 there were fewer, and the door failed where it was asked for the next one
  pub fewer : status ≡ 8 → length served < most
  pub failed : status ≡ 8 → HasRisen (o.faults door) (o.faults door')
  -- with 5 the last connection ended with 5, and none before it; with another status none did
  pub no_memory : status ≡ 5 → (earlier : List ℕ) × (statuses served ≡ earlier ++ 5 ∷ []) × HaveMemory earlier
  pub memory : status ≢ 5 → HaveMemory (statuses served)
  -- the door's count doesn't fall
  pub count : o.faults door ≤ o.faults door'
