-- What reading a line by which a command goes on does to the reader and the source, and what it gives.
use Rattle.std.specs.Prelude.{◌≡◌, ◌⊎◌, ℕ, ◌<◌, ◌≤◌, List, length, Option, IfSome, Result, Ok, Err}
use Rattle.nav_io.specs.declared.lines.LineError.TheVariants as line_error
use Rattle.nav_io.specs.Lines.{line_max, line_at_front, line_len, HasNoNewline}
use Rattle.nav_io.specs.Reading.{Reading, ahead, AfterLine, AfterError}
use Rattle.nav_proto.specs.declared.reply.Reply.{Reply}
use Rattle.nav_serve.specs.declared.file.Refused.{Refused}
use Rattle.nav_serve.specs.declared.file.Refused.TheVariants as refused
use Rattle.nav_session.specs.declared.halt.Halt.{Halt}
use Rattle.nav_session.specs.declared.halt.Halt.TheVariants.{SourceFailed, SinkFailed, NoMemory, LongLine}

-- the reader went from old to new and the source from left to left', and next is the line or none
pub record ReadsLine (old new : Reading) (left left' next : Option (List ℕ)) : Type 0 where
  pub line : IfSome (ahead old left) (λ text. next ≡ line_at_front text)
  pub short : IfSome next (λ line. length line ≤ line_max)
  pub no_newline : IfSome next HasNoNewline
  pub after : AfterLine old new left left' next

-- The reader and the source stopped for this reason. Memory was wanting for the next read, or for what is made of the
-- line that was read.
abbrev pub StopsAt : Reading → Reading → Option (List ℕ) → Option (List ℕ) → Halt → Type 0
StopsAt old new left left' SourceFailed = AfterError old new left left' line_error.ReadFault
StopsAt old new left left' LongLine = IfSome (ahead old left) (λ text. line_max < line_len text)
StopsAt old new left left' NoMemory =
    AfterError old new left left' line_error.NoMemory
    ⊎ ((next : Option (List ℕ)) × ReadsLine old new left left' next)
StopsAt old new left left' SinkFailed = ⊥

-- a line was read and gave what is defined of it, its value seen by the view, or the reader stopped
abbrev pub ReadsAs : {X Y : Type 0} → Reading → Reading → Option (List ℕ) → Option (List ℕ)
    → (X → Y) → (Option (List ℕ) → Result Y Reply) → Result X Refused → Type 0
ReadsAs old new left left' view defined (Ok x) =
    (next : Option (List ℕ)) × ReadsLine old new left left' next × (defined next ≡ Ok (view x))
ReadsAs old new left left' view defined (Err (refused.Reply reply)) =
    (next : Option (List ℕ)) × ReadsLine old new left left' next × (defined next ≡ Err reply)
ReadsAs old new left left' view defined (Err (refused.Halt reason)) =
    StopsAt old new left left' reason
