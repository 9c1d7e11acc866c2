-- What a task does on its way to its status: the input is answered, or its reading or writing stops.
use Rattle.std.specs.Prelude.{◌≡◌, ℕ, List, Option, IfSome, Result, Ok, Err, ⊤}
use Rattle.nav_proto.specs.declared.reply.Reply.{Reply}
use Rattle.nav_serve.specs.declared.tasks.Task.{Task}
use Rattle.nav_serve.specs.declared.tasks.Task.TheVariants.{Once}
use Rattle.nav_session.specs.declared.halt.Halt.{Halt}
use Rattle.nav_session.specs.declared.halt.Halt.TheVariants.{SourceFailed, SinkFailed, NoMemory, LongLine}
use Rattle.nav_serve.specs.Once.{IsOnceReply}
use Rattle.std.specs.Global.{Vec}
use Rattle.nav_session.specs.Transcripts.{with_newline}
use Rattle.nav_serve.specs.Taken.{IsOutput, WritesOutput, WritesBeginning, StopsShort, HasLongLine}

-- the reading of the task's input stopped for this reason
abbrev pub StopsReading : Task → Option (List ℕ) → Option (List ℕ) → Halt → Type 0
StopsReading task left left' SourceFailed = StopsShort task left left'
StopsReading task left left' LongLine = IfSome left (HasLongLine task)
StopsReading task left left' NoMemory = ⊤
StopsReading task left left' SinkFailed = ⊥

-- the input of `once` was read and has this reply, or its reading stopped
abbrev pub AnswersOnce : Option (List ℕ) → Option (List ℕ) → Result Reply Halt → Type 0
AnswersOnce left left' (Ok reply) =
    IfSome left (λ input. IsOnceReply input reply × ¬ HasLongLine Once input)
AnswersOnce left left' (Err reason) = StopsReading Once left left' reason

-- the task's input was read and is answered by this text and a newline, or its reading stopped
abbrev pub AnswersText : Task → Option (List ℕ) → Option (List ℕ) → Result (Vec ℕ) Halt → Type 0
AnswersText task left left' (Ok text) =
    IfSome left (λ input. IsOutput task input (with_newline text.items) × ¬ HasLongLine task input)
AnswersText task left left' (Err reason) = StopsReading task left left' reason

-- the whole output was written, and no line of the input is too long
pub record ServesAll (task : Task) (left held held' : Option (List ℕ)) : Type 0 where
  pub written : WritesOutput task left held held'
  pub not_long : IfSome left (λ input. ¬ HasLongLine task input)

-- nothing was written, and the reading stopped for this reason
pub record ServesNone (task : Task) (left left' held held' : Option (List ℕ)) (reason : Halt)
    : Type 0 where
  pub silent : held' ≡ held
  pub reading : StopsReading task left left' reason

-- what the task did where it stopped for this reason
abbrev pub StopsServing : Task → Option (List ℕ) → Option (List ℕ) → Option (List ℕ)
    → Option (List ℕ) → Halt → Type 0
StopsServing task left left' held held' SourceFailed =
    ServesNone task left left' held held' SourceFailed
StopsServing task left left' held held' LongLine =
    ServesNone task left left' held held' LongLine
StopsServing task left left' held held' SinkFailed = WritesBeginning task left held held'
StopsServing task left left' held held' NoMemory = WritesBeginning task left held held'

-- the task's input was answered in full, or the task stopped
abbrev pub Serves : Task → Option (List ℕ) → Option (List ℕ) → Option (List ℕ) → Option (List ℕ)
    → Result (Unit {0}) Halt → Type 0
Serves task left left' held held' (Ok done) = ServesAll task left held held'
Serves task left left' held held' (Err reason) = StopsServing task left left' held held' reason
