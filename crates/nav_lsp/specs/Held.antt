-- What an editor's session holds in memory, and what is seen of it between two messages; no public clause but that of
-- one message cites this.
use Rattle.std.specs.Prelude.{◌≡◌, ℕ, Bool, List, [], ◌∷◌, length, take, None, Some, IfSome, Result, IfOk, OnErr}
use Rattle.version_tree.specs.declared.entry.Entry.{Entry}
use Rattle.version_tree.specs.Contents.{replay, granted_rows}
use Rattle.version_board.specs.declared.board.Pins as boards
use Rattle.version_board.specs.Logs.{Begins, own}
use Rattle.nav_proto.specs.declared.request.FileEdit.{FileEdit}
use Rattle.nav_proto.specs.declared.request.Request.TheVariants.{Commit}
use Rattle.nav_proto.specs.declared.reply.Reply.{Reply as Answer}
use Rattle.nav_session.specs.Sessions.{asked_by, IsAnswered}
use Rattle.nav_session.specs.Desks.{HasItsView, is_accepted}
use Rattle.lsp_texts.specs.Texts.{texts_in}
use Rattle.nav_lsp.specs.declared.editor.Editor.{Editor}
use Rattle.nav_lsp.specs.Editing.{Editing, operator}

-- the session at a board that has seen so many entries and pins so many
abbrev pub editing_at : ℕ → ℕ → Editor → Editing
editing_at seen pin held = record { phase = held.phase; root = held.root.items; texts = texts_in held.texts; seen = seen; pin = pin }

-- the operator is named, and the views are those of the version that is pinned
pub record IsReady (held : Editor) (log : List Entry) (pin : ℕ) : Type 0 where
  pub user : held.desk.user ≡ Some operator
  pub desk_view : HasItsView held.desk log pin
  pub view : IfSome held.view (λ rows. rows ≡ granted_rows operator (replay (take pin log)))

-- whatever comes of a message, the seat stays, and what is seen of the log begins with what was seen
pub record GoesOn (name name' : ℕ) (log log' : List Entry) : Type 0 where
  pub seat : name' ≡ name
  pub begins : Begins log log'

-- What comes of a message at a board, which tells its parts so: the session goes on. With a reply, what is told of it holds,
-- by the seat and the log as it is then, and the next message can come. Where memory was wanting no entry of the seat came.
pub record ComesOf {A E B : Type 0} (tells : boards.Ghosts B) (result : Result A E) (Told : ℕ → List Entry → Editing → A → Editing → Type 0)
    (board board' : B) (held held' : Editor) : Type 0 where
  pub goes_on : GoesOn (tells.seat board) (tells.seat board') (tells.log board) (tells.log board')
  pub told : IfOk result (λ reply. Told (tells.seat board) (tells.log board')
      (editing_at (length (tells.log board)) (tells.pin_at board) held) reply
      (editing_at (length (tells.log board')) (tells.pin_at board') held'))
  pub ready : IfOk result (λ _. IsReady held' (tells.log board') (tells.pin_at board'))
  pub none : OnErr result (own (tells.seat board) (tells.log board') ≡ own (tells.seat board) (tells.log board))

-- but for the view all is held that was
pub record HoldsAll (old new : Editor) : Type 0 where
  pub phase : new.phase ≡ old.phase
  pub root : new.root.items ≡ old.root.items
  pub texts : new.texts ≡ old.texts
  pub desk : new.desk ≡ old.desk

-- one edit was committed, and whether it was accepted
pub record CommitsOne (seat : ℕ) (log : List Entry) (seen pin seen' pin' : ℕ) (edit : FileEdit) (accepted : Bool) : Type 0 where
  pub answer : Answer
  pub committed : IsAnswered seat log (asked_by seen operator pin) (Commit None (edit ∷ [])) answer (asked_by seen' operator pin')
  pub told : accepted ≡ is_accepted answer
