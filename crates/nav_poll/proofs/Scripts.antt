-- What a link took begins the script of what was to come.
use Rattle.std.proofs.Common.{◌≡◌, ℕ, List, [], ◌++◌, length, Option, Some, IfSome, flat_map, sym, ap, subst, ◌∙◌, append_assoc}
use Rattle.std.proofs.lemmas.Grind.{flat_map-append}
use Rattle.version_tree.specs.declared.entry.Entry.{Entry}
use Rattle.version_board.specs.Logs.{own}
use Rattle.nav_io.specs.Lines.{lines}
use Rattle.nav_proto.specs.declared.reply.Reply.{Reply}
use Rattle.nav_proto.specs.Replies.{reply_text}
use Rattle.nav_session.specs.Laws.{FirstLinesHaveOneScript}
use Rattle.nav_session.specs.Serving.{AreFirst}
use Rattle.nav_session.specs.Transcripts.{IsTranscript, with_newline, replies_text, max_lines, to_answer}
use Rattle.nav_poll.specs.Polling.{Seen, Start, StandsFor}
use Rattle.nav_poll.specs.Scripts.{IsScript, BeginsScript, PolledSessionsKeepToScript}

text_both : (replies others : List Reply) → replies_text (replies ++ others) ≡ replies_text replies ++ replies_text others
text_both replies others = flat_map-append (λ (r : Reply). with_newline (reply_text r)) replies others

pub begins_script : FirstLinesHaveOneScript → PolledSessionsKeepToScript
begins_script law s v input script alone empty there h is =
    let first : AreFirst h.served.answered (to_answer max_lines (lines input)) =
    subst (λ (o : Option (List ℕ)). IfSome o (λ text. AreFirst h.served.answered (to_answer max_lines (lines text)))) there h.served.first in
    let from_none : IsTranscript s.seat 0 v.now.session.log h.served.answered h.served.replies =
    subst (λ (l : List Entry). IsTranscript s.seat (length l) v.now.session.log h.served.answered h.served.replies) empty h.served.transcript in
    let all : IsTranscript s.seat 0 is.log (h.served.answered ++ first.0) is.replies =
    subst (λ (ls : List (List ℕ)). IsTranscript s.seat 0 is.log ls is.replies) (sym first.1) is.transcript in
    let more = law s.seat v.now.session.log is.log h.served.answered first.0 h.served.replies is.replies alone is.alone from_none all in
    record {
      taken = h.served.written;
      rest = h.served.unwritten ++ replies_text more.0;
      holds = h.served.holds;
      text = sym (append_assoc h.served.written h.served.unwritten (replies_text more.0))
          ∙ ap (λ (t : List ℕ). t ++ replies_text more.0) h.served.text
          ∙ sym (text_both h.served.replies more.0) ∙ ap replies_text more.1 ∙ sym is.text;
    }
