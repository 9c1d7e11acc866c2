-- What the parts of a poll do. No public clause cites this.
use Rattle.std.specs.Prelude.{◌≡◌, ◌⊎◌, ◌<◌, ◌≤◌, ◌-◌, ◌+◌, ◌*◌, ℕ, true, false, if◌then◌else◌, IsTrue, List, [], ◌++◌, length, Option, Some, None, IfSome, Result, Ok, Err}
use Rattle.std.specs.Io.KnownBytes.{prepend_known, append_known, IsAtEnd}
use Rattle.version_tree.specs.declared.entry.Entry.{Entry}
use Rattle.nav_io.specs.Faults.{HasRisen}
use Rattle.nav_io.specs.Lines.{line_max, HasNoNewline}
use Rattle.nav_io.specs.Reading.{Reading}
use Rattle.nav_session.specs.declared.step.Step.{Step}
use Rattle.nav_session.specs.declared.halt.Halt.{Halt}
use Rattle.nav_session.specs.declared.halt.Halt.TheVariants.{SourceFailed, SinkFailed, NoMemory, LongLine}
use Rattle.nav_session.specs.Desks.{GoesOn, moment}
use Rattle.nav_session.specs.Serving.{ends_session}
use Rattle.nav_session.specs.Turns.{Spot, AnswersNext, StopsNext}
use Rattle.nav_poll.specs.declared.link.Counts.{Counts}
use Rattle.nav_poll.specs.declared.went.Went.{Went}
use Rattle.nav_poll.specs.declared.went.Went.TheVariants.{On, Waits}
use Rattle.nav_poll.specs.Links.{NoneFell}
use Rattle.nav_poll.specs.Polling.{Polling}

-- the bytes to be pushed were out and are out', since the link took those in front
pub record Pushes (out out' : List ℕ) (held held' : Option (List ℕ)) : Type 0 where
  pub pushed : List ℕ
  pub split : out ≡ pushed ++ out'
  pub holds : held' ≡ append_known held pushed

-- bytes were pulled behind those in front of the reader, or the end was met
pub record Pulls (old new : Reading) (left left' : Option (List ℕ)) : Type 0 where
  pub pulled : List ℕ
  pub split : left ≡ prepend_known pulled left'
  pub front : new.front ≡ old.front ++ pulled
  pub more : ((0 < length pulled) × (new.ended ≡ false)) ⊎ ((new.ended ≡ true) × (pulled ≡ []) × IsAtEnd left')

-- no line in front is whole; behind the end of the input none is in front
pub record HasNoLine (old new : Spot) : Type 0 where
  pub same : new ≡ old
  pub none : HasNoNewline old.reader.front
  pub short : length old.reader.front ≤ line_max
  pub at_end : old.reader.ended ≡ true → old.reader.front ≡ []

-- What comes of the line in front: it is answered, or it isn't whole, or why it can't be answered.
abbrev pub TakesLine : Spot → Spot → Result (Option Step) Halt → Type 0
TakesLine old new (Ok (Some step)) = AnswersNext old new step × (new.reader.ended ≡ old.reader.ended)
TakesLine old new (Ok None) = HasNoLine old new
TakesLine old new (Err SourceFailed) = ⊥
TakesLine old new (Err SinkFailed) = ⊥
TakesLine old new (Err NoMemory) = StopsNext old new NoMemory
TakesLine old new (Err LongLine) = StopsNext old new LongLine

-- the session with its reply taken up
abbrev pub taken_up : {B K : Type 0} → Step → Polling B K → Polling B K
taken_up step p = record p { out = step.reply; quit = step.quit; lines = p.lines + 1 }

-- the session with the status
abbrev pub ended_with : {B K : Type 0} → ℕ → Polling B K → Polling B K
ended_with status p = record p { ended = Some status }

-- how much a session may still do: so many lines, and for each so many pulls
abbrev pub work_left : {B K : Type 0} → Polling B K → ℕ
work_left p = (1000000 - p.lines) * 8388612 + (8388609 - length p.reader.front) + (if p.reader.ended then 0 else 1)

-- What a part of a poll did to a session that had not ended: its log went on, and no count of its link fell. Where the poll
-- goes on and the session hasn't ended, less is left to do. Where it has, it is with a status of a session, and with 3 only if
-- the count of read faults rose.
pub record DoesPart {B K : Type 0} (seat : B → ℕ) (log : B → List Entry) (pin : B → ℕ) (counts : K → Counts)
    (old new : Polling B K) (went : Went) : Type 0 where
  pub goes_on : GoesOn (moment (seat old.board) (log old.board) (pin old.board) old.desk)
      (moment (seat new.board) (log new.board) (pin new.board) new.desk)
  pub none_fell : NoneFell (counts old.link) (counts new.link)
  pub on : went ≡ On → new.ended ≡ None → work_left new < work_left old
  pub statuses : IfSome new.ended (λ status. IsTrue (ends_session status))
  pub read_failed : new.ended ≡ Some 3 → HasRisen (counts old.link).read_faults (counts new.link).read_faults

-- It pushed nothing: where it has to wait, it is for bytes to be pulled, and no push failed.
pub record OnlyPulls {B K : Type 0} (counts : K → Counts) (old new : Polling B K) (went : Went) : Type 0 where
  pub waits : went ≡ Waits → (new.ended ≡ None) × HasRisen (counts old.link).read_waits (counts new.link).read_waits
  pub not_write_failed : new.ended ≡ Some 4 → ⊥
