-- What one turn of a session does: the next line is read and answered, or none is; no public clause cites this.
use Rattle.std.specs.Prelude.{◌≡◌, ◌⊎◌, ℕ, ◌<◌, ◌≤◌, List, ◌++◌, length, Option, Some, None, IfSome, Result, Ok, Err, ⊤}
use Rattle.std.specs.Option.{option_to_list}
use Rattle.nav_io.specs.declared.lines.LineError.TheVariants as line_error
use Rattle.nav_io.specs.Lines.{line_max, line_len, line_at_front, after_line, lines, HasNoNewline}
use Rattle.nav_io.specs.Reading.{Reading, ahead, AfterLine, AfterError, AfterBytes, AfterBytesError, bytes_at_front}
use Rattle.path_store.specs.Store.{Kept}
use Rattle.version_board.specs.Logs.{own}
use Rattle.nav_session.specs.declared.step.Step.{Step}
use Rattle.nav_session.specs.declared.halt.Halt.{Halt}
use Rattle.nav_session.specs.declared.halt.Halt.TheVariants.{SourceFailed, SinkFailed, NoMemory, LongLine}
use Rattle.nav_session.specs.declared.serving.End.{End}
use Rattle.nav_session.specs.declared.serving.End.TheVariants.{Answered, Full}
use Rattle.nav_session.specs.Requests.{is_quit}
use Rattle.nav_session.specs.Desks.{Moment, GoesOn, Answers, AddsOnly}
use Rattle.nav_session.specs.Halts.{status_of}

-- what is seen between two lines: the session, its reader, and what the source has left
pub record Spot : Type 0 where
  pub session : Moment
  pub reader : Reading
  pub left : Option (List ℕ)

-- what is seen, of these parts
abbrev pub spot : Moment → Reading → Option (List ℕ) → Spot
spot session reader left = record { session = session; reader = reader; left = left }

-- the reader went from old to new and the source from left to left', and next is the line or none
pub record ReadsLine (old new : Reading) (left left' next : Option (List ℕ)) : Type 0 where
  pub line : IfSome (ahead old left) (λ text. next ≡ line_at_front text)
  pub cut : IfSome (ahead old left) (λ text. lines text ≡ option_to_list next ++ lines (after_line text))
  pub short : IfSome next (λ line. length line ≤ line_max)
  pub no_newline : IfSome next HasNoNewline
  pub after : AfterLine old new left left' next

-- the next line was answered
pub record AnswersNext (old new : Spot) (step : Step) : Type 0 where
  pub line : List ℕ
  pub read : ReadsLine old.reader new.reader old.left new.left (Some line)
  pub goes_on : GoesOn old.session new.session
  pub answers : Answers line old.session new.session step.reply
  pub quit : step.quit ≡ is_quit line

-- whatever happened, the session goes on and has no entry more of its seat
pub record HasNoEntry (old new : Spot) : Type 0 where
  pub goes_on : GoesOn old.session new.session
  pub no_entry : own old.session.seat new.session.log ≡ own old.session.seat old.session.log

-- no line was left
pub record FindsEnd (old new : Spot) : Type 0 where
  pub read : ReadsLine old.reader new.reader old.left new.left None
  pub stays : HasNoEntry old new

-- why no line was answered
abbrev pub HasStopReason : Spot → Spot → Halt → Type 0
HasStopReason old new SourceFailed = AfterError old.reader new.reader old.left new.left line_error.ReadFault
HasStopReason old new LongLine =
    AfterError old.reader new.reader old.left new.left line_error.TooLong
    × IfSome (ahead old.reader old.left) (λ text. line_max < line_len text)
HasStopReason old new NoMemory =
    AfterError old.reader new.reader old.left new.left line_error.NoMemory
    ⊎ ((line : List ℕ) × ReadsLine old.reader new.reader old.left new.left (Some line))
HasStopReason old new SinkFailed = ⊥

-- no line was answered, for that reason, and no entry came
pub record StopsNext (old new : Spot) (reason : Halt) : Type 0 where
  pub why : HasStopReason old new reason
  pub stays : HasNoEntry old new

-- what comes of a turn
abbrev pub TakesTurn : Spot → Spot → Result (Option Step) Halt → Type 0
TakesTurn old new (Ok (Some step)) = AnswersNext old new step
TakesTurn old new (Ok None) = FindsEnd old new
TakesTurn old new (Err reason) = StopsNext old new reason

-- what a turn that answers no line makes of the store: nothing, but where memory is refused
abbrev pub LeavesStore : Result (Option Step) Halt → List Kept → List Kept → Type 0
LeavesStore (Ok (Some step)) old new = ⊤
LeavesStore (Err NoMemory) old new = AddsOnly old new
LeavesStore _ old new = new ≡ old

-- how a session ends behind its last line, where a byte or none is next
abbrev pub end_before : Option (List ℕ) → End
end_before None = Answered
end_before (Some bytes) = Full

-- the next byte was looked for behind the last line
pub record FindsByte (old new : Reading) (left left' : Option (List ℕ)) (end : End) : Type 0 where
  pub next : Option (List ℕ)
  pub byte : IfSome (ahead old left) (λ text. next ≡ bytes_at_front 1 text)
  pub after : AfterBytes 1 old new left left' next
  pub tells : end ≡ end_before next

-- the same where it may fail: the source has a fault, or memory is wanting
abbrev pub LooksOn : Reading → Reading → Option (List ℕ) → Option (List ℕ) → Result End Halt → Type 0
LooksOn old new left left' (Ok end) = FindsByte old new left left' end
LooksOn old new left left' (Err SourceFailed) = AfterBytesError 1 old new left left' line_error.ReadFault
LooksOn old new left left' (Err NoMemory) = AfterBytesError 1 old new left left' line_error.NoMemory
LooksOn old new left left' (Err LongLine) = ⊥
LooksOn old new left left' (Err SinkFailed) = ⊥

-- the status that tells of an end
abbrev pub status_of_end : End → ℕ
status_of_end Answered = 0
status_of_end Full = 7

-- the status of that end, or of why it couldn't be told
abbrev pub status_at_end : Result End Halt → ℕ
status_at_end (Ok end) = status_of_end end
status_at_end (Err reason) = status_of reason
