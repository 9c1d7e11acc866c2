-- What one turn of an editor's session does: the next message is read and answered, or none is; no public clause cites
-- this.
use Rattle.std.specs.Prelude.{◌≡◌, ℕ, Bool, List, [], length, Option, Some, None, Result, Ok, Err, if◌then◌else◌}
use Rattle.version_tree.specs.declared.entry.Entry.{Entry}
use Rattle.version_board.specs.declared.board.Pins as boards
use Rattle.version_board.specs.Logs.{own}
use Rattle.nav_io.specs.Reading.{Reading}
use Rattle.lsp_texts.specs.Texts.{AreSame, no_texts, texts_in}
use Rattle.lsp_messages.specs.declared.halt.Halt.{Halt}
use Rattle.lsp_messages.specs.declared.receiving.More.{More}
use Rattle.lsp_messages.specs.declared.receiving.More.TheVariants as more
use Rattle.lsp_messages.specs.Ends.{status_of}
use Rattle.lsp_messages.specs.Inputs.{is_exit}
use Rattle.lsp_messages.specs.Turns.{ReadsFrame, ReadsNext}
use Rattle.nav_session.specs.Sessions.{Sees}
use Rattle.nav_session.specs.Desks.{max_cost}
use Rattle.nav_lsp.specs.declared.editor.Editor.{Editor}
use Rattle.nav_lsp.specs.declared.phase.Phase.TheVariants as phase
use Rattle.nav_lsp.specs.declared.serving.End.{End}
use Rattle.nav_lsp.specs.declared.serving.End.TheVariants.{Input, Exit, Full}
use Rattle.nav_lsp.specs.declared.serving.Step.{Step}
use Rattle.nav_lsp.specs.Editing.{Editing, opened}
use Rattle.nav_lsp.specs.Held.{IsReady, GoesOn, editing_at}
use Rattle.nav_lsp.specs.Replies.{IsReplyTo}

-- nothing was made of the editor yet, and nobody is named at its desk
pub record IsFresh (held : Editor) : Type 0 where
  pub phase : held.phase ≡ phase.Before
  pub root : held.root.items ≡ []
  pub texts : AreSame no_texts (texts_in held.texts)
  pub desk : held.desk ≡ record { store = []; user = None; view = None; keeps = max_cost }
  pub view : held.view ≡ None

-- what is seen between two messages: the seat, what it has seen of the log and how much of it is pinned, what the editor's
-- session holds, its reader, and what the source has left
pub record Spot : Type 0 where
  pub seat : ℕ
  pub log : List Entry
  pub pin : ℕ
  pub editor : Editor
  pub reader : Reading
  pub left : Option (List ℕ)

-- what is seen, of these parts
abbrev pub spot : ℕ → List Entry → ℕ → Editor → Reading → Option (List ℕ) → Spot
spot seat log pin editor reader left = record { seat = seat; log = log; pin = pin; editor = editor; reader = reader; left = left }

-- the same at a board, which tells its parts so
abbrev pub spot_at : {B : Type 0} → boards.Ghosts B → B → Editor → Reading → Option (List ℕ) → Spot
spot_at tells board editor reader left = spot (tells.seat board) (tells.log board) (tells.pin_at board) editor reader left

-- the session as a transcript sees it
abbrev pub editing_of : Spot → Editing
editing_of s = editing_at (length s.log) s.pin s.editor

-- whatever happened, the session goes on and has no entry more of its seat
pub record HasNoEntry (seat seat' : ℕ) (log log' : List Entry) : Type 0 where
  pub goes_on : GoesOn seat seat' log log'
  pub own_stay : own seat log' ≡ own seat log

-- the operator was named: all that there is to see is pinned, and nothing else was made of the editor
pub record BeginsToEdit (seat : ℕ) (log log' : List Entry) (pin' : ℕ) (held : Editor) : Type 0 where
  pub sees : Sees seat log' (length log) (length log')
  pub opens : editing_at (length log') pin' held ≡ opened (length log')
  pub ready : IsReady held log' pin'

-- the next message was answered
pub record AnswersNext (old new : Spot) (step : Step) : Type 0 where
  pub bytes : List ℕ
  pub read : ReadsFrame old.reader new.reader old.left new.left (Some bytes)
  pub exit : step.exit ≡ is_exit bytes
  pub goes_on : GoesOn old.seat new.seat old.log new.log
  pub replied : IsReplyTo old.seat new.log (editing_of old) bytes step.reply (editing_of new)
  pub ready : IsReady new.editor new.log new.pin

-- no message was left
pub record FindsEnd (old new : Spot) : Type 0 where
  pub read : ReadsFrame old.reader new.reader old.left new.left None
  pub stays : HasNoEntry old.seat new.seat old.log new.log

-- no message was answered, for this reason
pub record StopsNext (old new : Spot) (reason : Halt) : Type 0 where
  pub why : ReadsNext old.reader new.reader old.left new.left (Err reason)
  pub stays : HasNoEntry old.seat new.seat old.log new.log

-- what comes of a turn
abbrev pub TakesTurn : Spot → Spot → Result (Option Step) Halt → Type 0
TakesTurn old new (Ok (Some step)) = AnswersNext old new step
TakesTurn old new (Ok None) = FindsEnd old new
TakesTurn old new (Err reason) = StopsNext old new reason

-- how a session ends behind as many messages as may be
abbrev pub end_before : More → End
end_before more.Nothing = Input
end_before more.Bytes = Full

-- the status that tells of an end, where a `shutdown` was answered or none
abbrev pub status_of_end : Bool → End → ℕ
status_of_end shut Input = 0
status_of_end shut Exit = if shut then 0 else 1
status_of_end shut Full = 7

-- the status of that end, or of why it couldn't be told
abbrev pub status_at_end : Bool → Result End Halt → ℕ
status_at_end shut (Ok end) = status_of_end shut end
status_at_end shut (Err reason) = status_of reason
