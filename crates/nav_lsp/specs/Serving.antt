-- What serving an editor does, from what was there before to what is there after, and its status.
use Rattle.std.specs.Prelude.{ℕ, List, length, Option}
use Rattle.version_tree.specs.declared.entry.Entry.{Entry}
use Rattle.version_board.specs.Logs.{Begins}
use Rattle.lsp_messages.specs.Serving.{Serves}
use Rattle.nav_lsp.specs.Transcripts.{IsTold}

-- An editor was served at the seat. It saw the first of these logs before, and the second afterwards. What its messages
-- are replied is told by a transcript over the log as it is at the end.
pub record ServesEditor (seat : ℕ) (log log' : List Entry) (left left' held held' : Option (List ℕ)) (status : ℕ) : Type 0 where
  pub begins : Begins log log'
  pub served : Serves (IsTold seat (length log) log') left left' held held' status
