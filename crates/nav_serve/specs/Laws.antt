-- Laws on what is promised of commands.
use Rattle.std.specs.Prelude.{◌≡◌, ℕ, false, List, Option, None, IsTrue}
use Rattle.nav_doors.specs.Connections.{Outside as Doors}
use Rattle.nav_serve.specs.declared.words.Command.{Command}
use Rattle.nav_serve.specs.declared.tasks.Task.{Task}
use Rattle.nav_serve.specs.Statuses as end
use Rattle.nav_serve.specs.Outside.{Scene}
use Rattle.nav_serve.specs.Performed.{DoesTask}
use Rattle.nav_serve.specs.Headline.{may_end, promise}

-- The command does what the task does, by the definition of a task alone, and uses neither the house,
-- the board nor the steps.
abbrev pub IsTask : {D S K : Type 0} → Doors D S K → Command → Task → Type 0
IsTask {D} {S} {K} o command task =
    ((before after : Scene D) (status : ℕ) → (promise command).does o before after status
    → DoesTask task before.outside after.outside status)
    × ((promise command).uses.house ≡ false) × ((promise command).uses.board ≡ false)
    × ((promise command).uses.steps ≡ false)

-- A command writes one output to an input, and tells with one status that all of it is written.
abbrev pub CommandsHaveOneOutput : Type 0
CommandsHaveOneOutput =
    (command : Command) (input output other : List ℕ) (status last : ℕ)
    → (promise command).output input output status → (promise command).output input other last
    → (output ≡ other) × (status ≡ last)

-- No command ends with the status of words that are none.
abbrev pub BadWordsAreNoCommand : Type 0
BadWordsAreNoCommand =
    (command : Option Command) → IsTrue (may_end command end.bad_words) → command ≡ None
