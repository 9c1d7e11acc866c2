-- What the link of a session took whose board no other session extends.
use Rattle.std.specs.Prelude.{◌≡◌, ℕ, List, [], ◌++◌, Some}
use Rattle.std.specs.Io.KnownBytes.{append_known}
use Rattle.version_tree.specs.declared.entry.Entry.{Entry}
use Rattle.version_board.specs.Logs.{own}
use Rattle.nav_io.specs.Lines.{lines}
use Rattle.nav_proto.specs.declared.reply.Reply.{Reply}
use Rattle.nav_session.specs.Transcripts.{IsTranscript, replies_text, max_lines, to_answer}
use Rattle.nav_poll.specs.Polling.{Seen, Start, StandsFor}

-- The script of an input at a seat: the text of the replies to all lines that are to be answered, by a transcript over a
-- log that was empty and has only entries of the seat. It is what a session over a source with this input writes.
pub record IsScript (seat : ℕ) (input script : List ℕ) : Type 0 where
  pub log : List Entry
  pub alone : own seat log ≡ log
  pub replies : List Reply
  pub transcript : IsTranscript seat 0 log (to_answer max_lines (lines input)) replies
  pub text : script ≡ replies_text replies

-- what the link took since the start begins the script
pub record BeginsScript (s : Start) (v : Seen) (script : List ℕ) : Type 0 where
  pub taken : List ℕ
  pub rest : List ℕ
  pub holds : v.held ≡ append_known s.held taken
  pub text : taken ++ rest ≡ script

-- Of a session whose log has only entries of its seat, the link took a beginning of the script of the bytes that were to
-- come at a start with an empty log.
abbrev pub PolledSessionsKeepToScript : Type 0
PolledSessionsKeepToScript =
    (s : Start) (v : Seen) (input script : List ℕ) → own s.seat v.now.session.log ≡ v.now.session.log → s.log ≡ []
    → s.left ≡ Some input → StandsFor s v → IsScript s.seat input script → BeginsScript s v script
