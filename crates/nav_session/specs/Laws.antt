-- Laws of transcripts.
use Rattle.std.specs.Prelude.{◌≡◌, ℕ, List, ◌++◌}
use Rattle.version_tree.specs.declared.entry.Entry.{Entry}
use Rattle.version_board.specs.Logs.{own}
use Rattle.nav_proto.specs.declared.reply.Reply.{Reply}
use Rattle.nav_session.specs.Transcripts.{IsTranscript}

-- a session whose log has only its own entries has one reply to each line
abbrev pub LinesHaveOneScript : Type 0
LinesHaveOneScript =
    (seat : ℕ) (log other : List Entry) (lines : List (List ℕ)) (replies others : List Reply)
    → own seat log ≡ log → own seat other ≡ other
    → IsTranscript seat 0 log lines replies → IsTranscript seat 0 other lines others → replies ≡ others

-- of two such sessions, of which the one has more lines behind those of the other, the replies to the lines of both are
-- the same
abbrev pub FirstLinesHaveOneScript : Type 0
FirstLinesHaveOneScript =
    (seat : ℕ) (log other : List Entry) (lines more : List (List ℕ)) (replies others : List Reply)
    → own seat log ≡ log → own seat other ≡ other
    → IsTranscript seat 0 log lines replies → IsTranscript seat 0 other (lines ++ more) others
    → (rest : List Reply) × (replies ++ rest ≡ others)
