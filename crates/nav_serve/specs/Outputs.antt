-- The outputs of sessions and of the demonstration, each a function of the input: on a log that has
-- the session's own entries alone, an input has one.
use Rattle.std.specs.Prelude.{◌≡◌, ℕ, Bool, List, Option}
use Rattle.version_tree.specs.declared.entry.Entry.{Entry}
use Rattle.version_board.specs.Logs.{own}
use Rattle.nav_io.specs.Lines.{lines}
use Rattle.nav_proto.specs.declared.reply.Reply.{Reply}
use Rattle.nav_session.specs.Transcripts.{IsTranscript, replies_text, max_lines, to_answer, with_newline}
use Rattle.lsp_wire.specs.declared.reply.Reply.{Reply as Answer}
use Rattle.lsp_messages.specs.Inputs.{max_messages, to_answer as messages_of}
use Rattle.lsp_messages.specs.Serving.{replies_text as frames_of}
use Rattle.nav_lsp.specs.Transcripts.{IsTold}
use Rattle.nav_demo.specs.Summary.{IsSummary}

-- The script of an input: the text of the replies to all of its lines that are to be answered. They are
-- those of a session of seat 0 over a log of its own entries alone, with which it begins.
pub record IsScript (input script : List ℕ) : Type 0 where
  pub log : List Entry
  pub all_own : own 0 log ≡ log
  pub replies : List Reply
  pub transcript : IsTranscript 0 0 log (to_answer max_lines (lines input)) replies
  pub text : script ≡ replies_text replies

-- The same of an editor's input: the frames of the replies to all of its messages that are to be
-- answered, and whether `shutdown` was answered among them.
pub record IsEditorScript (input script : List ℕ) (shut : Bool) : Type 0 where
  pub log : List Entry
  pub all_own : own 0 log ≡ log
  pub replies : List (Option Answer)
  pub told : IsTold 0 0 log (messages_of max_messages input) replies shut
  pub text : script ≡ frames_of replies

-- the output of a demonstration: the summary of the made tree, and a newline
pub record IsDemonstration (files start : ℕ) (output : List ℕ) : Type 0 where
  pub log : List Entry
  pub all_own : own 0 log ≡ log
  pub summary : List ℕ
  pub is_summary : IsSummary 0 0 log files start summary
  pub text : output ≡ with_newline summary
