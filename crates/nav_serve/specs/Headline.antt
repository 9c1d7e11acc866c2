-- The headline: what a user of the program relies on, command by command. It is to be read from top
-- to bottom, by a reader who knows no other file; what stands elsewhere is told in words where it is
-- named.
--
-- The words after the program's name are a command, or none (`command_of`, Words.antt). A command may
-- meet a source, which it reads (standard input), a sink, which it writes (standard output), a house,
-- whose doors let clients in (a port of the machine), and a board, on which a seat sees a log of
-- versions and makes it longer. What is seen of these at one moment is a scene (Outside.antt). A
-- command leads from one scene to another, and ends with a status, which has a number and a name
-- (Statuses.antt). Where a source or a sink doesn't tell its bytes, as a terminal doesn't, what is said
-- of them here says nothing, and the rest holds.
use Rattle.std.specs.Prelude.{◌≡◌, ℕ, ◌||◌, ◌==◌, Bool, true, false, List, [], ◌++◌, Option, Some, None, IfSome, IsTrue}
use Rattle.std.specs.Io.KnownBytes.{append_known}
use Rattle.version_tree.specs.declared.entry.Entry.{Entry}
use Rattle.version_board.specs.Logs.{own}
use Rattle.nav_io.specs.Lines.{lines}
use Rattle.nav_session.specs.Serving.{Serves, answers_all, ends_session, ends_unhindered}
use Rattle.nav_session.specs.Transcripts.{max_lines, ending, status_at}
use Rattle.lsp_messages.specs.Ends as editor
use Rattle.lsp_messages.specs.Inputs.{max_messages, ending as ending_of, status_at as status_of}
use Rattle.nav_lsp.specs.Serving.{ServesEditor}
use Rattle.nav_demo.specs.Summary.{Demonstrates, ends_demo, ends_demo_unhindered}
use Rattle.nav_doors.specs.Connections.{Outside as Doors, ends_doors}
use Rattle.nav_doors.specs.Houses.{House, ServesHouse}
use Rattle.nav_serve.specs.declared.words.Command.{Command}
use Rattle.nav_serve.specs.declared.words.Command.TheVariants.{Once, Upgrade, Run, Lsp, Demo, Serve}
use Rattle.nav_serve.specs.declared.tasks.Task.{Task}
use Rattle.nav_serve.specs.declared.tasks.Task.TheVariants as task
use Rattle.nav_serve.specs.Statuses as end
use Rattle.nav_serve.specs.Outside.{Outside, Scene, HasCause, HasNoFault, scene}
use Rattle.nav_serve.specs.Taken.{IsOutput}
use Rattle.nav_serve.specs.Performed.{DoesTask, EndsTask, task_ends}
use Rattle.nav_serve.specs.Outputs.{IsScript, IsEditorScript, IsDemonstration}

-- ---- what is promised of a command

-- The parts of the outside that it uses, and whether it counts the steps of its work. What it doesn't
-- use stays as it was: `run` has a clause on each (`unused_source` and so on).
pub record Parts : Type 0 where
  pub source : Bool
  pub sink : Bool
  pub house : Bool
  pub board : Bool
  pub steps : Bool

pub record Promise : Type 1 where
  -- What it writes to an input, and the status that goes with all of that: for an input there is one
  -- such output and one such status (`CommandsHaveOneOutput`, Laws.antt).
  pub output : (input output : List ℕ) → (status : ℕ) → Type 0
  -- The statuses that tell that all of the output is written. With any other a beginning of it is.
  pub all : ℕ → Bool
  -- the statuses with which it may end
  pub ends : ℕ → Bool
  -- those with which it may where no read and no write failed, by what the source had left
  pub unhindered : Option (List ℕ) → ℕ → Type 0
  pub uses : Parts
  -- what it does besides, with any status, from one scene to another, over doors that are read so
  pub does : {D S K : Type 0} → Doors D S K → Scene D → Scene D → ℕ → Type 0

-- ---- `navd once` and `navd upgrade`: a line is answered

-- Each reads what it needs, writes one line that answers it, and ends. `once` needs two lines, a graph
-- file and the number of a node; the answer has all definitions of that reference, or says what is
-- wrong with the first line, or else with the second (`IsOnceReply`, Once.antt). `upgrade` needs one
-- line, a graph file; the answer is the same graph with named nodes, or says what is wrong with it
-- (Upgrade.antt).
abbrev pub of_task : Task → Promise
of_task task = record {
  output = λ input output status. IsOutput task input output × (status ≡ end.done);
  all = λ status. status == end.done;
  -- 0, 3, 4, 5 or 6; where nothing failed 0, 5, or 6 for a line that is too long
  ends = task_ends;
  unhindered = EndsTask task;
  uses = record { source = true; sink = true; house = false; board = false; steps = false };
  -- with 3 and 6 nothing was written; with 3 a line was wanting, with 6 one that is needed is too long
  does = λ o before after status. DoesTask task before.outside after.outside status;
}

-- ---- `navd run`: a session of requests

-- Each line is a request, and has one reply, in order: `hello` names the user, `commit` and the like
-- make the log longer, `define`, `references` and `callers` ask about the version that is pinned, over
-- the files that the user may see. The output is the script: the replies to all lines that are to be answered.
-- Those are all up to and with an accepted `quit`, up to one that is too long, and at most 1,000,000.
-- The status that goes with it says why no more are: the input ends or was left by `quit` (0), a line
-- is too long (6), or there are more than may be (7).
abbrev pub of_run : Promise
of_run = record {
  output = λ input output status.
      IsScript input output × (status ≡ status_at (ending max_lines (lines input)));
  -- 0, 6 or 7
  all = answers_all;
  -- 0, 3, 4, 5, 6 or 7; where nothing failed 0, 5, 6 or 7
  ends = ends_session;
  unhindered = λ left status. IsTrue (ends_unhindered status);
  uses = record { source = true; sink = true; house = false; board = true; steps = true };
  -- The replies are those of a transcript over the log as it is at the end, which has an entry for
  -- each accepted change and no other one of this seat. With 3 they answer exactly the whole lines
  -- that were taken.
  does = λ o before after status. Serves before.seat before.log after.log
      before.outside.left after.outside.left before.outside.held after.outside.held status;
}

-- ---- `navd lsp`: an editor's session

-- The same of messages of the Language Server Protocol: each whole frame of the input is a message, and
-- has a reply where it is a request. The log grows by the documents that the editor opens, changes and
-- closes. The status that goes with the output says why no more messages are to be answered: the input
-- ends or the editor left (0), it left without `shutdown` (1), a message is too long (6), there are more
-- than 1,000,000 (7), or no whole frame stands there (9).
abbrev pub of_lsp : Promise
of_lsp = record {
  output = λ input output status. (shut : Bool) × IsEditorScript input output shut
      × (status ≡ status_of shut (ending_of max_messages input));
  -- 0, 1, 6, 7 or 9
  all = editor.answers_all;
  -- these and 3, 4 or 5; where nothing failed these and 5
  ends = editor.ends_session;
  unhindered = λ left status. IsTrue (editor.ends_unhindered status);
  uses = record { source = true; sink = true; house = false; board = true; steps = true };
  does = λ o before after status. ServesEditor before.seat before.log after.log
      before.outside.left after.outside.left before.outside.held after.outside.held status;
}

-- ---- `navd demo FILES START`: a made tree

-- So many files, which a generator draws from the start, are committed in a session, and each is asked
-- about. The output is one line, which sums up the replies.
abbrev pub of_demo : ℕ → ℕ → Promise
of_demo files start = record {
  output = λ input output status. IsDemonstration files start output × (status ≡ end.done);
  all = λ status. status == end.done;
  -- 0, 4 or 5; where nothing failed 0 or 5
  ends = ends_demo;
  unhindered = λ left status. IsTrue (ends_demo_unhindered status);
  uses = record { source = false; sink = true; house = false; board = true; steps = true };
  does = λ o before after status. Demonstrates before.seat before.log after.log
      before.outside.held after.outside.held files start status;
}

-- ---- `navd serve PORT DOORS CONNECTIONS`: many clients

-- The house gives out so many doors, for the seats of one new board, and gets them back. Each door has
-- so many clients, one after the other, each served as by `run`, from what the seat had seen. At the end
-- one log has what all of them committed, unless memory was refused. A client's fault ends its own
-- session alone; a door that fails where it is asked for a client (8), or a session that is refused
-- memory (5), ends that door's loop alone. There is no output: what is written goes to the clients.
abbrev pub of_serve : ℕ → ℕ → Promise
of_serve doors connections = record {
  output = λ input output status. ⊥;
  all = λ status. false;
  -- 0, 5 or 8
  ends = ends_doors;
  unhindered = λ left status. IsTrue (ends_doors status);
  uses = record { source = false; sink = false; house = true; board = false; steps = false };
  does = λ o before after status. ServesHouse o doors connections before.house after.house status;
}

-- ---- what is relied on of the program

abbrev pub promise : Command → Promise
promise Once = of_task task.Once
promise Upgrade = of_task task.Upgrade
promise Run = of_run
promise Lsp = of_lsp
promise (Demo files start) = of_demo files start
promise (Serve port doors connections) = of_serve doors connections

-- words that are no command use nothing, and end with 2, or with 5 where memory for them was refused
abbrev pub refuses : ℕ → Bool
refuses status = status == end.bad_words || status == end.no_memory

abbrev pub may_end : Option Command → ℕ → Bool
may_end None status = refuses status
may_end (Some command) status = (promise command).ends status

-- the parts that are used where the words are this command, or none
abbrev pub used_by : Option Command → Parts
used_by None = record { source = false; sink = false; house = false; board = false; steps = false }
used_by (Some command) = (promise command).uses

-- What is relied on of `run`, over any board, for the command that the words are, or none.
pub record Keeps {D S K : Type 0} (o : Doors D S K) (command : Option Command)
    (before after : Scene D) (status : ℕ) : Type 0 where
  pub ends : IsTrue (may_end command status)
  -- with 3 the source failed in this call, with 4 the sink, and no count of their faults fell
  pub causes : HasCause before.outside after.outside status
  -- where neither failed, it ended as is promised of that
  pub complete : HasNoFault before.outside after.outside
      → IfSome command (λ one. (promise one).unhindered before.outside.left status)
  pub does : IfSome command (λ one. (promise one).does o before after status)
  pub same_seat : after.seat ≡ before.seat

-- the input: what the source has left, where that is read; and nothing where it isn't
abbrev pub input_where : Bool → Option (List ℕ) → Option (List ℕ)
input_where true left = left
input_where false left = Some []

abbrev pub input_of : Command → Option (List ℕ) → Option (List ℕ)
input_of command left = input_where (promise command).uses.source left

-- the bytes begin each output of the command for this input, of which there is one
abbrev pub BeginsOutput : Command → List ℕ → List ℕ → Type 0
BeginsOutput command written input =
    (output : List ℕ) (status : ℕ) → (promise command).output input output status
    → (rest : List ℕ) × (written ++ rest ≡ output)

-- What was written is the output, where the status tells so, and with any status it begins the output.
pub record Gives (command : Command) (before after : Outside) (status : ℕ) : Type 0 where
  pub written : List ℕ
  pub holds : after.held ≡ append_known before.held written
  pub whole : (promise command).all status ≡ true
      → IfSome (input_of command before.left)
      (λ input. (promise command).output input written status)
  pub begins : IfSome (input_of command before.left) (BeginsOutput command written)

-- What is relied on of `run_alone`, which is what the program runs: over a board that nobody else uses
-- the input tells the output. The board has one seat, 0. Its log is empty at first, and at the end has
-- entries of that seat alone; `serve` leaves it so, and makes one of its own.
pub record KeepsAlone {D S K : Type 0} (o : Doors D S K) (command : Option Command)
    (before after : Outside) (house house' : House D) (status : ℕ) : Type 0 where
  pub log : List Entry
  pub all_own : own 0 log ≡ log
  pub keeps : Keeps o command (scene before house 0 []) (scene after house' 0 log) status
  pub gives : IfSome command (λ one. Gives one before after status)
