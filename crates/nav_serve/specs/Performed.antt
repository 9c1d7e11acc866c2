-- What a task did, from the outside as it was to the outside as it is, and the status.
use Rattle.std.specs.Prelude.{◌≡◌, ℕ, ◌⊎◌, Bool, ◌||◌, ◌==◌, List, Option, IfSome}
use Rattle.nav_serve.specs.declared.tasks.Task.{Task}
use Rattle.nav_serve.specs.Outside.{Outside}
use Rattle.nav_serve.specs.Statuses as end
use Rattle.nav_serve.specs.Taken.{WritesOutput, WritesBeginning, StopsShort, HasLongLine}

-- A task was done, or as much of it as its status tells:
pub record DoesTask (task : Task) (before after : Outside) (status : ℕ) : Type 0 where
  -- where it was done, a whole output that answers the input was written, and no line of the input is too long
  pub answered : status ≡ end.done → WritesOutput task before.left before.held after.held
  pub not_long : status ≡ end.done → IfSome before.left (λ input. ¬ HasLongLine task input)
  -- with any status nothing was written, or the beginning of such an output
  pub begun : WritesBeginning task before.left before.held after.held
  -- where the source failed, what was taken lacks a line that is needed, and nothing was written
  pub short : status ≡ end.source_failed → StopsShort task before.left after.left
  pub silent : status ≡ end.source_failed → after.held ≡ before.held
  -- where a line is too long, it is one that is needed, and nothing was written
  pub long : status ≡ end.too_long → IfSome before.left (HasLongLine task)
  pub silent_long : status ≡ end.too_long → after.held ≡ before.held

-- whether a task may end with this status: 0, 3, 4, 5 or 6
abbrev pub task_ends : ℕ → Bool
task_ends status =
    status == end.done || status == end.source_failed || status == end.sink_failed
    || status == end.no_memory || status == end.too_long

-- with which status it ends where neither the source nor the sink had a fault: 0, 5, or 6 by the input
abbrev pub EndsTask : Task → Option (List ℕ) → ℕ → Type 0
EndsTask task left status =
    (status ≡ end.done) ⊎ (status ≡ end.no_memory)
    ⊎ ((status ≡ end.too_long) × IfSome left (HasLongLine task))
