-- Which status tells of what was found in the words, and of what a task came to; no public clause cites this.
use Rattle.std.specs.Prelude.{ℕ, Option, Some, None, Result, Ok, Err}
use Rattle.nav_session.specs.declared.halt.Halt.{Halt}
use Rattle.nav_session.specs.Halts.{status_of}
use Rattle.nav_serve.specs.declared.words.Command.{Command}
use Rattle.nav_serve.specs.Statuses as end

-- the command that was found in the words; or the status, where they are none or memory for reading them was refused
abbrev pub or_status : {E : Type 0} → Result (Option Command) E → Result Command ℕ
or_status (Ok (Some command)) = Ok command
or_status (Ok None) = Err end.bad_words
or_status (Err fault) = Err end.no_memory

-- the status where a task was done, or the one that tells why it wasn't
abbrev pub status_after : {T : Type 0} → Result T Halt → ℕ
status_after (Ok work) = end.done
status_after (Err halt) = status_of halt
