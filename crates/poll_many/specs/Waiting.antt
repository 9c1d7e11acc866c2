-- What is known of places while a round comes to nothing; no public clause cites this.
use Rattle.std.specs.Prelude.{◌≡◌, ℕ, ◌+◌, ◌<◌, ◌≤◌, List, slice_get, Some}
use Rattle.nav_poll.specs.declared.link.Counts.{Counts}
use Rattle.poll_many.specs.Connections.{Outside}
use Rattle.poll_many.specs.Settling.{HasWaited, SettlesBehindRounds}
use Rattle.poll_many.specs.declared.place.Open.{Open}
use Rattle.poll_many.specs.declared.place.Place.{Place}
use Rattle.poll_many.specs.declared.place.Place.TheVariants.{Free, Busy, Lost, Away}

-- the port gave out no link and got none back, and the places are as they were
pub record GaveNone {P B K : Type 0} (o : Outside P B K) (port port' : P) (places places' : List (Place B K)) : Type 0 where
  pub same_given : o.gave port' ≡ o.gave port
  pub same_back : o.got_back port' ≡ o.got_back port
  pub same_places : places' ≡ places

-- the session was open at the place, and its link had to wait since
abbrev pub WaitedAt : {B K : Type 0} → (K → Counts) → Place B K → Open B K → Type 0
WaitedAt counts (Free desk board) s = ⊥
WaitedAt counts (Busy was) s = HasWaited (counts was.polled.link) (counts s.polled.link)
WaitedAt counts (Lost board) s = ⊥
WaitedAt counts Away s = ⊥

-- so it is of the session that is open there now, if one is
abbrev pub WaitsAt : {B K : Type 0} → (K → Counts) → Place B K → Place B K → Type 0
WaitsAt counts p (Free desk board) = Unit {0}
WaitsAt counts p (Busy s) = WaitedAt counts p s
WaitsAt counts p (Lost board) = Unit {0}
WaitsAt counts p Away = Unit {0}

-- At the first n places it is so of each open session, and behind them the places are as they were. The port gave out no link
-- and got none back.
pub record HaveWaited {P B K : Type 0} (o : Outside P B K) (n : ℕ) (port port' : P) (places places' : List (Place B K)) : Type 0 where
  pub same_given : o.gave port' ≡ o.gave port
  pub same_back : o.got_back port' ≡ o.got_back port
  pub waited : (k : ℕ) (p p' : Place B K) → k < n → slice_get places k ≡ Some p → slice_get places' k ≡ Some p' → WaitsAt o.counts p p'
  pub behind : (k : ℕ) → n ≤ k → slice_get places' k ≡ slice_get places k

-- what was so of the first n places since some moment is so of one more
abbrev pub OneMoreWaits : {P B K : Type 0} → Outside P B K → ℕ → P → P → List (Place B K) → List (Place B K) → Type 0
OneMoreWaits {P} {B} {K} o n port port' places places' =
    (before : P) (those : List (Place B K)) → HaveWaited o n before port those places → HaveWaited o (n + 1) before port' those places'

-- It is so at each place. The port gave out no link and got none back.
pub record AllHaveWaited {P B K : Type 0} (o : Outside P B K) (port port' : P) (places places' : List (Place B K)) : Type 0 where
  pub same_given : o.gave port' ≡ o.gave port
  pub same_back : o.got_back port' ≡ o.got_back port
  pub waited : (k : ℕ) (p p' : Place B K) → slice_get places k ≡ Some p → slice_get places' k ≡ Some p' → WaitsAt o.counts p p'

-- if the port had settled behind rounds that came to nothing alone, since it was this one, then so it has now
abbrev pub SettlesOn : {P B K : Type 0} → Outside P B K → P → P → P → Type 0
SettlesOn o first port port' = SettlesBehindRounds o first port → SettlesBehindRounds o first port'
