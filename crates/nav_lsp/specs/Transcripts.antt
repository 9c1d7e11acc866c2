-- The transcript of an editor's session: its messages, and the reply to each that has one.
use Rattle.std.specs.Prelude.{◌≡◌, ℕ, Bool, List, [], ◌∷◌, take, Option}
use Rattle.version_tree.specs.declared.entry.Entry.{Entry}
use Rattle.version_board.specs.Logs.{own}
use Rattle.nav_session.specs.Sessions.{Sees}
use Rattle.lsp_wire.specs.declared.reply.Reply.{Reply}
use Rattle.nav_lsp.specs.Editing.{Editing, opened, is_shut}
use Rattle.nav_lsp.specs.Replies.{IsReplyTo}

-- the replies to messages, one after the other
abbrev pub AreReplies : ℕ → List Entry → Editing → List (List ℕ) → List (Option Reply) → Editing → Type 0
AreReplies seat log before [] [] after = after ≡ before
AreReplies seat log before [] (reply ∷ replies) after = ⊥
AreReplies seat log before (bytes ∷ messages) [] after = ⊥
AreReplies seat log before (bytes ∷ messages) (reply ∷ replies) after =
    (next : Editing) × IsReplyTo seat log before bytes reply next × AreReplies seat log next messages replies after

-- A transcript of a seat over a log, where so many entries are seen before the session. It begins with all that there is
-- to see, pinned by the operator. Each change that was accepted has its entry, and the seat has no entry but these from
-- there on.
pub record IsTranscript (seat : ℕ) (begin : ℕ) (log : List Entry) (messages : List (List ℕ)) (replies : List (Option Reply)) : Type 0 where
  pub head : ℕ
  pub sees : Sees seat log begin head
  pub last : Editing
  pub replied : AreReplies seat log (opened head) messages replies last
  pub no_other : own seat (take last.seen log) ≡ own seat log

-- messages and their replies, by a transcript, and whether `shutdown` was answered among them
pub record IsTold (seat : ℕ) (begin : ℕ) (log : List Entry) (messages : List (List ℕ)) (replies : List (Option Reply)) (shut : Bool) : Type 0 where
  pub transcript : IsTranscript seat begin log messages replies
  pub shuts : shut ≡ is_shut transcript.last.phase
