-- What serving a session does, from what was there before to what is there after, and its status.
use Rattle.std.specs.Prelude.{◌≡◌, ◌≢◌, ◌⊎◌, ℕ, Bool, ◌||◌, ◌==◌, true, false, List, [], ◌∷◌, ◌++◌, length, Option, IfSome, ⊤}
use Rattle.std.specs.List.{list_any}
use Rattle.std.specs.Io.KnownBytes.{prepend_known, append_known, IsAtEnd}
use Rattle.path_store.specs.Store.{Kept}
use Rattle.version_tree.specs.declared.entry.Entry.{Entry}
use Rattle.version_board.specs.Logs.{Begins}
use Rattle.nav_io.specs.Lines.{lines, whole_lines}
use Rattle.nav_proto.specs.declared.reply.Reply.{Reply}
use Rattle.nav_session.specs.Requests.{is_quit}
use Rattle.nav_session.specs.Desks.{OnDesk, AddsOnly, AreKept}
use Rattle.nav_session.specs.Transcripts.{IsTranscript, replies_text, max_lines, to_answer, ending, status_at}

-- the one list of lines begins the other
abbrev pub AreFirst : List (List ℕ) → List (List ℕ) → Type 0
AreFirst some all = (more : List (List ℕ)) × (some ++ more ≡ all)

-- The lines are the first of the whole ones among the bytes that were taken; a last one without a newline is whole where
-- the source has no more.
pub record AreTaken (answered : List (List ℕ)) (left left' : Option (List ℕ)) : Type 0 where
  pub taken : List ℕ
  pub split : left ≡ prepend_known taken left'
  pub whole : AreFirst answered (whole_lines taken) ⊎ (IsAtEnd left' × AreFirst answered (lines taken))

-- the lines are exactly the whole ones among the bytes that were taken, and none ends the session
pub record AreAllTaken (answered : List (List ℕ)) (left left' : Option (List ℕ)) : Type 0 where
  pub taken : List ℕ
  pub split : left ≡ prepend_known taken left'
  pub whole : answered ≡ whole_lines taken
  pub no_quit : list_any is_quit answered ≡ false

-- none of the lines but the last one is an accepted `quit`: no line follows one
abbrev pub OnlyLastQuits : List (List ℕ) → Type 0
OnlyLastQuits [] = ⊤
OnlyLastQuits (line ∷ []) = ⊤
OnlyLastQuits (line ∷ next ∷ more) = (is_quit line ≡ false) × OnlyLastQuits (next ∷ more)

-- whether all replies to the lines that were answered are written with the status
abbrev pub writes_all : ℕ → Bool
writes_all status = status == 0 || status == 3 || status == 6 || status == 7

-- whether all lines that are to be answered are, with the status
abbrev pub answers_all : ℕ → Bool
answers_all status = status == 0 || status == 6 || status == 7

-- whether a session may end with the status, and whether one may that nothing outside hinders
abbrev pub ends_session : ℕ → Bool
ends_session status = status == 0 || status == 3 || status == 4 || status == 5 || status == 6 || status == 7

abbrev pub ends_unhindered : ℕ → Bool
ends_unhindered status = status == 0 || status == 5 || status == 6 || status == 7

-- A session of the seat was served. It saw the first of these logs before, and the second afterwards.
pub record Serves (seat : ℕ) (log log' : List Entry) (left left' held held' : Option (List ℕ)) (status : ℕ) : Type 0 where
  pub begins : Begins log log'
  -- lines were answered, by a transcript over the log as it is at the end
  pub answered : List (List ℕ)
  pub replies : List Reply
  pub transcript : IsTranscript seat (length log) log' answered replies
  pub last : OnlyLastQuits answered
  -- they are the first of those that are to be answered, and whole
  pub first : IfSome left (λ input. AreFirst answered (to_answer max_lines (lines input)))
  pub taken : AreTaken answered left left'
  -- a beginning of their replies' text was written, and with most statuses all of it
  pub written : List ℕ
  pub unwritten : List ℕ
  pub text : written ++ unwritten ≡ replies_text replies
  pub holds : held' ≡ append_known held written
  pub whole : writes_all status ≡ true → written ≡ replies_text replies
  -- with 0, 6 and 7 all lines that are to be answered were, and the status tells why no more are
  pub all : answers_all status ≡ true → IfSome left (λ input. answered ≡ to_answer max_lines (lines input))
  pub ends : answers_all status ≡ true → IfSome left (λ input. status ≡ status_at (ending max_lines (lines input)))
  -- with 3 the source failed where no more whole lines were taken
  pub short : status ≡ 3 → AreAllTaken answered left left'

-- what outlives a session: what its seat has seen of the log, the documents on its desk, and the most that they may cost
pub record Standing : Type 0 where
  pub log : List Entry
  pub store : List Kept
  pub keeps : ℕ

-- that of a log and a desk
abbrev pub standing : List Entry → OnDesk → Standing
standing log desk = record { log = log; store = desk.store; keeps = desk.keeps }

-- The same of a session at a desk, from what stood before to what stands afterwards.
pub record ServesAtDesk (seat : ℕ) (before after : Standing) (left left' held held' : Option (List ℕ)) (status : ℕ) : Type 0 where
  pub served : Serves seat before.log after.log left left' held held' status
  -- the desk keeps as much as before
  pub same : after.keeps ≡ before.keeps
  -- what the lines that were answered made of the store, one after the other
  pub made : List Kept
  pub kept : AreKept before.keeps served.answered served.replies before.store made
  -- that is left; where memory was refused, a line more may have added documents
  pub stays : status ≢ 5 → after.store ≡ made
  pub adds : AddsOnly made after.store
