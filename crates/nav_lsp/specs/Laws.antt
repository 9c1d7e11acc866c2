-- Laws of an editor's transcripts.
use Rattle.std.specs.Prelude.{◌≡◌, ℕ, Bool, List, [], ◌++◌, Option}
use Rattle.version_tree.specs.declared.entry.Entry.{Entry}
use Rattle.version_board.specs.Logs.{own}
use Rattle.lsp_wire.specs.declared.reply.Reply.{Reply}
use Rattle.nav_lsp.specs.Transcripts.{IsTold}

-- these replies begin those, and where there are no more messages they are all of them, and `shutdown` was answered in
-- both or in neither
pub record AreFirstTold (more : List (List ℕ)) (replies others : List (Option Reply)) (shut shut' : Bool) : Type 0 where
  pub rest : List (Option Reply)
  pub begin : replies ++ rest ≡ others
  pub all : more ≡ [] → (replies ≡ others) × (shut ≡ shut')

-- of two sessions whose logs have only their own entries, of which the one has more messages behind those of the other,
-- the replies to the messages of both are the same
abbrev pub MessagesHaveOneScript : Type 0
MessagesHaveOneScript =
    (seat : ℕ) (log other : List Entry) (messages more : List (List ℕ)) (replies others : List (Option Reply)) (shut shut' : Bool)
    → own seat log ≡ log → own seat other ≡ other
    → IsTold seat 0 log messages replies shut → IsTold seat 0 other (messages ++ more) others shut'
    → AreFirstTold more replies others shut shut'
