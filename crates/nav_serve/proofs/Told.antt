-- What is told of the words, of a document and of a task, by what was found.
use Rattle.std.proofs.Common.{◌≡◌, ◌∙◌, ℕ, ◌≤◌, List, [], Option, None, Some, IsTrue, Result, Ok, Err, inl, inr, refl, sym, subst, arith}
use Rattle.std.specs.Prelude.{◌⊎◌, IfOk, IfErr}
use Rattle.graph_nodes.specs.Graph.{Graph}
use Rattle.nav_io.specs.Faults.{HasRisen}
use Rattle.index_gate.specs.declared.fault.FileFault.{FileFault}
use Rattle.index_gate.specs.declared.fault.ReadFault.{ReadFault}
use Rattle.index_gate.specs.declared.fault.ReadFault.TheVariants as read
use Rattle.index_gate.specs.Reading.{IsReading}
use Rattle.nav_proto.specs.declared.reply.FileError.{FileError}
use Rattle.nav_proto.specs.declared.reply.Reply.TheVariants.{BadFile}
use Rattle.nav_session.specs.BadFiles.{file_error}
use Rattle.nav_session.specs.declared.halt.Halt.{Halt}
use Rattle.nav_session.specs.declared.halt.Halt.TheVariants.{SourceFailed, SinkFailed, NoMemory, LongLine}
use Rattle.nav_serve.specs.declared.words.Command.{Command}
use Rattle.nav_serve.specs.declared.tasks.Task.{Task}
use Rattle.nav_serve.specs.declared.file.Refused.{Refused}
use Rattle.nav_serve.specs.Files.{or_refusal}
use Rattle.nav_serve.specs.Refused.{AnswersAs, parts}
use Rattle.nav_serve.specs.Ended.{or_status, status_after}
use Rattle.nav_serve.specs.Outside.{EndsSo, HasCause, HasNoFault, Outside}
use Rattle.nav_serve.specs.Performed.{DoesTask, EndsTask, task_ends}
use Rattle.nav_serve.specs.Serving.{Serves}
use Rattle.nav_serve.specs.Taken.{WritesBeginning}
use Rattle.nav_serve.proofs.CallerLemmas.{append_known-nil, nothing_begins}
use Rattle.nav_serve.proofs.Writing.{beginning-whole}

command_by : {E : Type 0} (found : Result (Option Command) E) (command : Option Command)
    → IfOk found (λ one. one ≡ command) → IfOk (or_status found) (λ one. command ≡ Some one)
command_by (Ok (Some one)) command is = sym is
command_by (Ok None) command is = tt
command_by (Err fault) command is = tt

-- a command is the one that the words are
pub tells_command : {E : Type 0} (found : Result (Option Command) E) (result : Result Command ℕ) (command : Option Command)
    → IfOk found (λ one. one ≡ command) → result ≡ or_status found → IfOk result (λ one. command ≡ Some one)
tells_command found result command is told =
    subst (λ (r : Result Command ℕ). IfOk r (λ one. command ≡ Some one)) (sym told) (command_by found command is)

status_by : {E : Type 0} (found : Result (Option Command) E) (command : Option Command)
    → IfOk found (λ one. one ≡ command) → IfErr (or_status found) (λ status. ((status ≡ 2) × (command ≡ None)) ⊎ (status ≡ 5))
status_by (Ok (Some one)) command is = tt
status_by (Ok None) command is = inl (refl, sym is)
status_by (Err fault) command is = inr refl

-- a status tells that the words are no command, or that memory was refused
pub tells_status : {E : Type 0} (found : Result (Option Command) E) (result : Result Command ℕ) (command : Option Command)
    → IfOk found (λ one. one ≡ command) → result ≡ or_status found
    → IfErr result (λ status. ((status ≡ 2) × (command ≡ None)) ⊎ (status ≡ 5))
tells_status found result command is told =
    subst (λ (r : Result Command ℕ). IfErr r (λ status. ((status ≡ 2) × (command ≡ None)) ⊎ (status ≡ 5))) (sym told) (status_by found command is)

-- the fault that was told of a document is its fault
tells_fault : (told : ReadFault) (fault : FileFault) (defined : Result Graph FileFault)
    → told ≡ read.File fault → IsReading (Err told) defined → defined ≡ Err fault
tells_fault told fault defined is h = (subst (λ (f : ReadFault). IsReading (Err f) defined) is h).0

-- a line with that fault was refused by it
pub refuses_file : (path : List ℕ) (told : ReadFault) (fault : FileFault) (error : FileError) (defined : Result Graph FileFault) (r : Result Graph Refused)
    → told ≡ read.File fault → error ≡ file_error fault → IsReading (Err told) defined → AnswersAs parts r (Err (BadFile path error))
    → AnswersAs parts r (or_refusal path defined)
refuses_file path told fault error defined r is same h a =
    subst (λ (d : Result Graph FileFault). AnswersAs parts r (or_refusal path d)) (sym (tells_fault told fault defined is h))
    (subst (λ (e : FileError). AnswersAs parts r (Err (BadFile path e))) same a)

-- with a status that tells no more, a beginning was written
does_part : (task : Task) (before after : Outside) (status : ℕ) → WritesBeginning task before.left before.held after.held
    → (status ≡ 0 → ⊥) → (status ≡ 3 → ⊥) → (status ≡ 6 → ⊥) → DoesTask task before after status
does_part task before after status begun not_done no_source not_long = record {
  answered = λ e. absurd (not_done e);
  not_long = λ e. absurd (not_done e);
  begun = begun;
  short = λ e. absurd (no_source e);
  silent = λ e. absurd (no_source e);
  long = λ e. absurd (not_long e);
  silent_long = λ e. absurd (not_long e);
}

-- a task did as much as its status tells
pub does_task : (task : Task) (before after : Outside) (r : Result (Unit {0}) Halt)
    → Serves task before.left after.left before.held after.held r → DoesTask task before after (status_after r)
does_task task before after (Ok work) s = record {
  answered = λ e. s.written;
  not_long = λ e. s.not_long;
  begun = beginning-whole task before.left before.held after.held s.written;
  short = λ e. absurd (omega (arith, e));
  silent = λ e. absurd (omega (arith, e));
  long = λ e. absurd (omega (arith, e));
  silent_long = λ e. absurd (omega (arith, e));
}
does_task task before after (Err SourceFailed) s = record {
  answered = λ e. absurd (omega (arith, e));
  not_long = λ e. absurd (omega (arith, e));
  begun = ([], s.silent ∙ append_known-nil before.held, nothing_begins task before.left);
  short = λ e. s.reading;
  silent = λ e. s.silent;
  long = λ e. absurd (omega (arith, e));
  silent_long = λ e. absurd (omega (arith, e));
}
does_task task before after (Err LongLine) s = record {
  answered = λ e. absurd (omega (arith, e));
  not_long = λ e. absurd (omega (arith, e));
  begun = ([], s.silent ∙ append_known-nil before.held, nothing_begins task before.left);
  short = λ e. absurd (omega (arith, e));
  silent = λ e. absurd (omega (arith, e));
  long = λ e. s.reading;
  silent_long = λ e. s.silent;
}
does_task task before after (Err SinkFailed) s =
    does_part task before after 4 s (λ e. omega (arith, e)) (λ e. omega (arith, e)) (λ e. omega (arith, e))
does_task task before after (Err NoMemory) s =
    does_part task before after 5 s (λ e. omega (arith, e)) (λ e. omega (arith, e)) (λ e. omega (arith, e))

source_by : (A : Type 0) (r : Result (Unit {0}) Halt) → (r ≡ Err SourceFailed → A) → status_after r ≡ 3 → A
source_by A (Ok work) h e = absurd (omega (arith, e))
source_by A (Err SourceFailed) h e = h refl
source_by A (Err SinkFailed) h e = absurd (omega (arith, e))
source_by A (Err NoMemory) h e = absurd (omega (arith, e))
source_by A (Err LongLine) h e = absurd (omega (arith, e))

sink_by : (A : Type 0) (r : Result (Unit {0}) Halt) → (r ≡ Err SinkFailed → A) → status_after r ≡ 4 → A
sink_by A (Ok work) h e = absurd (omega (arith, e))
sink_by A (Err SourceFailed) h e = absurd (omega (arith, e))
sink_by A (Err SinkFailed) h e = h refl
sink_by A (Err NoMemory) h e = absurd (omega (arith, e))
sink_by A (Err LongLine) h e = absurd (omega (arith, e))

-- a status that blames a side has its cause there
has_cause : (before after : Outside) (r : Result (Unit {0}) Halt)
    → (r ≡ Err SourceFailed → HasRisen before.source_faults after.source_faults) → (r ≡ Err SinkFailed → HasRisen before.sink_faults after.sink_faults)
    → before.source_faults ≤ after.source_faults → before.sink_faults ≤ after.sink_faults → HasCause before after (status_after r)
has_cause before after r source sink source_count sink_count = record {
  source_failed = source_by (HasRisen before.source_faults after.source_faults) r source;
  sink_failed = sink_by (HasRisen before.sink_faults after.sink_faults) r sink;
  source_count = source_count;
  sink_count = sink_count;
}

-- where neither side failed, it was done, or memory was refused, or a line is too long
ends_task : (task : Task) (before after : Outside) (r : Result (Unit {0}) Halt) → Serves task before.left after.left before.held after.held r
    → (r ≡ Err SourceFailed → HasRisen before.source_faults after.source_faults) → (r ≡ Err SinkFailed → HasRisen before.sink_faults after.sink_faults)
    → HasNoFault before after → EndsTask task before.left (status_after r)
ends_task task before after (Ok work) s source sink none = inl refl
ends_task task before after (Err SourceFailed) s source sink none = absurd (none.source (source refl))
ends_task task before after (Err SinkFailed) s source sink none = absurd (none.sink (sink refl))
ends_task task before after (Err NoMemory) s source sink none = inr (inl refl)
ends_task task before after (Err LongLine) s source sink none = inr (inr (refl, s.reading))

may_end : (r : Result (Unit {0}) Halt) → IsTrue (task_ends (status_after r))
may_end (Ok work) = refl
may_end (Err SourceFailed) = refl
may_end (Err SinkFailed) = refl
may_end (Err NoMemory) = refl
may_end (Err LongLine) = refl

-- how it ended
pub ends_so : (task : Task) (before after : Outside) (r : Result (Unit {0}) Halt) → Serves task before.left after.left before.held after.held r
    → (r ≡ Err SourceFailed → HasRisen before.source_faults after.source_faults) → (r ≡ Err SinkFailed → HasRisen before.sink_faults after.sink_faults)
    → before.source_faults ≤ after.source_faults → before.sink_faults ≤ after.sink_faults
    → EndsSo task_ends (EndsTask task before.left) before after (status_after r)
ends_so task before after r s source sink source_count sink_count = record {
  may_end = may_end r;
  causes = has_cause before after r source sink source_count sink_count;
  complete = ends_task task before after r s source sink;
}
