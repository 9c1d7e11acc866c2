-- The transcript of a session: its lines, and the reply to each.
use Rattle.std.specs.Prelude.{◌≡◌, ◌⊎◌, ℕ, zero, suc, List, [], ◌∷◌, ◌++◌, length, take, if◌then◌else◌, nat_lt}
use Rattle.std.specs.List.{flat_map}
use Rattle.version_tree.specs.declared.entry.Entry.{Entry}
use Rattle.version_board.specs.Logs.{own}
use Rattle.nav_io.specs.Lines.{line_max}
use Rattle.nav_proto.specs.declared.reply.Reply.{Reply}
use Rattle.nav_proto.specs.Replies.{reply_text}
use Rattle.nav_session.specs.Requests.{is_quit}
use Rattle.nav_session.specs.Sessions.{Session, opened, IsReplyTo}
use Rattle.nav_session.specs.Chains.{IsChain}

-- the replies to lines, one after the other
abbrev pub AreReplies : ℕ → List Entry → Session → List (List ℕ) → List Reply → Session → Type 0
AreReplies seat log = IsChain (IsReplyTo seat log)

-- A transcript of a seat over a log, where the session begins with so many entries seen. Each line that was accepted has
-- its entry, as its reply says, and the seat has no entry but these from there on.
pub record IsTranscript (seat : ℕ) (begin : ℕ) (log : List Entry) (lines : List (List ℕ)) (replies : List Reply) : Type 0 where
  pub last : Session
  pub replied : AreReplies seat log (opened begin) lines replies last
  pub no_other : own seat (take last.seen log) ≡ own seat log

-- a text and the newline that ends it
abbrev pub with_newline : List ℕ → List ℕ
with_newline text = text ++ 10 ∷ []

-- the text of replies, each with its newline
abbrev pub replies_text : List Reply → List ℕ
replies_text replies = flat_map (λ reply. with_newline (reply_text reply)) replies

-- the most lines of a session
abbrev pub max_lines : ℕ
max_lines = 1000000

-- Of the lines of an input, those that are to be answered, where at most so many may be: all up to and with the first
-- accepted `quit`, and none from the first that is too long.
unfoldable pub to_answer : ℕ → List (List ℕ) → List (List ℕ)
to_answer n [] = []
to_answer zero (line ∷ lines) = []
to_answer (suc n) (line ∷ lines) =
    if nat_lt line_max (length line) then [] else
    line ∷ (if is_quit line then [] else to_answer n lines)

-- why no more are to be answered: the input ends, a line ends the session, one is too long, or there were as many as may be
pub data Ending : Type 0 where
  AtEnd : Ending
  AtQuit : Ending
  AtLongLine : Ending
  AtMost : Ending

-- why no more of these lines are to be answered, where at most so many may be
unfoldable pub ending : ℕ → List (List ℕ) → Ending
ending n [] = AtEnd
ending zero (line ∷ lines) = AtMost
ending (suc n) (line ∷ lines) =
    if nat_lt line_max (length line) then AtLongLine else
    (if is_quit line then AtQuit else ending n lines)

-- the status that tells of it
abbrev pub status_at : Ending → ℕ
status_at AtEnd = 0
status_at AtQuit = 0
status_at AtLongLine = 6
status_at AtMost = 7
