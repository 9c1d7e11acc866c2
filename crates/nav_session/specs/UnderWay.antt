-- A session between two lines: which lines it answered of its input, and how far they reach in it.
use Rattle.std.specs.Prelude.{◌≡◌, ◌⊎◌, ℕ, ◌≤◌, false, IsTrue, List, [], ◌++◌, length, Option, Some, None, IfSome}
use Rattle.std.specs.List.{AllByRecursion}
use Rattle.std.specs.Io.KnownBytes.{append_known, prepend_known, IsAtEnd}
use Rattle.version_tree.specs.declared.entry.Entry.{Entry}
use Rattle.version_board.specs.Logs.{Begins}
use Rattle.nav_io.specs.Lines.{line_max, lines, HasNoNewline, ended_lines}
use Rattle.nav_io.specs.Reading.{Reading}
use Rattle.nav_proto.specs.declared.reply.Reply.{Reply}
use Rattle.nav_session.specs.Requests.{is_quit}
use Rattle.nav_session.specs.Sessions.{opened}
use Rattle.nav_session.specs.Transcripts.{AreReplies, replies_text}
use Rattle.nav_session.specs.Desks.{OnDesk, session_of, HasItsView, AreKept}
use Rattle.nav_session.specs.Turns.{Spot}

-- a line that isn't too long, and one that doesn't end the session
abbrev pub IsShort : List ℕ → Type 0
IsShort line = length line ≤ line_max

abbrev pub IsNoQuit : List ℕ → Type 0
IsNoQuit line = is_quit line ≡ false

-- lines behind which more may be answered
pub record ArePassed (lines : List (List ℕ)) : Type 0 where
  pub short : AllByRecursion IsShort lines
  pub no_quit : AllByRecursion IsNoQuit lines

-- behind these lines of the input this text is in front of the reader and in the source
pub record IsReached (input : List ℕ) (done : List (List ℕ)) (reader : Reading) (left : Option (List ℕ)) : Type 0 where
  pub text : List ℕ
  pub there : prepend_known reader.front left ≡ Some text
  pub others : lines input ≡ done ++ lines text
  -- each line had its newline, or the last one had none and ended the input
  pub bytes : (input ≡ ended_lines done ++ text) ⊎ ((text ≡ []) × IsTrue reader.ended)

-- of a source with this input the lines were read, where it tells its bytes
pub record HasRead (done : List (List ℕ)) (input : Option (List ℕ)) (reader : Reading) (left : Option (List ℕ)) : Type 0 where
  pub no_newline : AllByRecursion HasNoNewline done
  pub untold : input ≡ None → left ≡ None
  pub told : IfSome input (λ bytes. IsReached bytes done reader left)
  pub at_end : IsTrue reader.ended → IsAtEnd left

-- So many lines were answered of what the source had, and their replies are written.
pub record IsUnderWay (count seat : ℕ) (log : List Entry) (left held : Option (List ℕ)) (now : Spot) (held' : Option (List ℕ)) : Type 0 where
  pub done : List (List ℕ)
  pub replies : List Reply
  pub so_many : length done ≡ count
  pub same_seat : now.session.seat ≡ seat
  pub begins : Begins log now.session.log
  pub view : HasItsView now.session.desk now.session.log now.session.pin
  pub passed : ArePassed done
  pub read : HasRead done left now.reader now.left
  pub replied : AreReplies seat now.session.log (opened (length log)) done replies (session_of now.session)
  pub holds : held' ≡ append_known held (replies_text replies)

-- The same at a desk that was this one at first: what it keeps now is what those lines made of what it kept.
pub record IsAtDesk (count seat : ℕ) (log : List Entry) (desk : OnDesk) (left held : Option (List ℕ)) (now : Spot)
    (held' : Option (List ℕ)) : Type 0 where
  pub under_way : IsUnderWay count seat log left held now held'
  pub same : now.session.desk.keeps ≡ desk.keeps
  pub kept : AreKept desk.keeps under_way.done under_way.replies desk.store now.session.desk.store
