-- When a port settles: only behind a round that came to nothing, in which no link was given out, none came back, and each one
-- that is out had to wait.
use Rattle.std.specs.Prelude.{◌≡◌, ◌⊎◌, ℕ, ◌+◌, List, [], ◌∷◌, length}
use Rattle.std.specs.List.{AllByRecursion}
use Rattle.nav_io.specs.Faults.{HasRisen, counted}
use Rattle.nav_io.specs.Told.{append_told}
use Rattle.nav_poll.specs.declared.link.Counts.{Counts}
use Rattle.poll_many.specs.Connections.{Outside}

-- a link had to wait: one of its two counts of waits rose
abbrev pub HasWaited : Counts → Counts → Type 0
HasWaited old new = HasRisen old.write_waits new.write_waits ⊎ HasRisen old.read_waits new.read_waits

-- a round: the port before it and behind it, and so each link that is out
pub record Round (P K : Type 0) : Type 0 where
  pub before : P
  pub after : P
  pub links : List (K × K)

-- The round came to nothing. The links are as many as were given out since the port was this one and haven't come back.
pub record CameToNothing {P B K : Type 0} (o : Outside P B K) (port : P) (round : Round P K) : Type 0 where
  pub same_given : o.gave round.after ≡ o.gave round.before
  pub same_back : o.got_back round.after ≡ o.got_back round.before
  pub waited : AllByRecursion (λ (link : K × K). HasWaited (o.counts link.0) (o.counts link.1)) round.links
  pub given : List K
  pub back : List K
  pub gave : o.gave round.after ≡ append_told (o.gave port) given
  pub got_back : o.got_back round.after ≡ append_told (o.got_back port) back
  pub all : length given ≡ length back + length round.links

-- The port has settled so often: as often as when it was this one, and once more behind each of these rounds, which stand
-- from the last back to the first. It didn't settle within one, nor between one that it settled behind and the next.
abbrev pub SettledBehind : {P B K : Type 0} → Outside P B K → P → ℕ → List (Round P K) → Type 0
SettledBehind o port n [] = n ≡ o.settles port
SettledBehind o port n (round ∷ rounds) =
    (n ≡ counted (o.settles round.after)) × (o.settles round.after ≡ o.settles round.before)
    × CameToNothing o port round × SettledBehind o port (o.settles round.before) rounds

-- the port was like this and is like that, and each time that it settled since was behind a round that came to nothing
pub record SettlesBehindRounds {P B K : Type 0} (o : Outside P B K) (port port' : P) : Type 0 where
  pub rounds : List (Round P K)
  pub settled : SettledBehind o port (o.settles port') rounds
