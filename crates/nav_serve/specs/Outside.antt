-- What is seen at one moment of all that a command may meet, and what failed from one moment to another.
use Rattle.std.specs.Prelude.{◌≡◌, ℕ, ◌≤◌, List, Option, Bool, IsTrue}
use Rattle.version_tree.specs.declared.entry.Entry.{Entry}
use Rattle.nav_io.specs.declared.sink.Sink as sinks
use Rattle.nav_io.specs.declared.source.Source as sources
use Rattle.nav_io.specs.Faults.{HasRisen}
use Rattle.nav_doors.specs.Houses.{House}
use Rattle.nav_serve.specs.Statuses as end

-- of the source and the sink: the bytes that the source has left and those that the sink holds, where
-- they are told, and the faults of each
pub record Outside : Type 0 where
  pub left : Option (List ℕ)
  pub source_faults : ℕ
  pub held : Option (List ℕ)
  pub sink_faults : ℕ

-- the outside with these
abbrev pub seen : Option (List ℕ) → ℕ → Option (List ℕ) → ℕ → Outside
seen left source_faults held sink_faults =
    record { left = left; source_faults = source_faults; held = held; sink_faults = sink_faults }

-- the outside of a source and a sink, by what their traits tell
abbrev pub seen_at : {S K : Type 0} → sources.Ghosts S → sinks.Ghosts K → S → K → Outside
seen_at source_tells sink_tells source sink =
    seen (source_tells.left source) (source_tells.faults source) (sink_tells.held sink) (sink_tells.faults sink)

-- of these, of the house, and of the board: the name of the seat, and the log that it has seen
pub record Scene (D : Type 0) : Type 0 where
  pub outside : Outside
  pub house : House D
  pub seat : ℕ
  pub log : List Entry

-- the scene with these
abbrev pub scene : {D : Type 0} → Outside → House D → ℕ → List Entry → Scene D
scene outside house seat log = record { outside = outside; house = house; seat = seat; log = log }

-- a status that blames the source or the sink has its cause there, and no count of faults falls
pub record HasCause (before after : Outside) (status : ℕ) : Type 0 where
  pub source_failed : status ≡ end.source_failed → HasRisen before.source_faults after.source_faults
  pub sink_failed : status ≡ end.sink_failed → HasRisen before.sink_faults after.sink_faults
  pub source_count : before.source_faults ≤ after.source_faults
  pub sink_count : before.sink_faults ≤ after.sink_faults

-- neither count of faults rose
pub record HasNoFault (before after : Outside) : Type 0 where
  pub source : ¬ HasRisen before.source_faults after.source_faults
  pub sink : ¬ HasRisen before.sink_faults after.sink_faults

-- It ended with one of the statuses with which it may: one that blames a side has its cause there, and where neither side
-- failed it is one that may come then.
pub record EndsSo (may : ℕ → Bool) (unhindered : ℕ → Type 0) (before after : Outside) (status : ℕ) : Type 0 where
  pub may_end : IsTrue (may status)
  pub causes : HasCause before after status
  pub complete : HasNoFault before after → unhindered status
