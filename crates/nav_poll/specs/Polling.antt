-- A session over a link that is polled by hand, and the starts that it stands for: since a start it did what a session
-- over a source and a sink does that have what the link had then.
use Rattle.std.specs.Prelude.{◌≡◌, ◌⊎◌, ℕ, ◌≤◌, Bool, MatchBool, List, [], ◌++◌, Option, Some, None}
use Rattle.std.specs.Io.KnownBytes.{append_known}
use Rattle.version_tree.specs.declared.entry.Entry.{Entry}
use Rattle.nav_io.specs.Faults.{HasRisen}
use Rattle.nav_io.specs.Reading.{Reading}
use Rattle.nav_session.specs.Transcripts.{max_lines}
use Rattle.nav_session.specs.Desks.{OnDesk, moment}
use Rattle.nav_session.specs.Serving.{Serves}
use Rattle.nav_session.specs.Turns.{Spot, spot}
use Rattle.nav_session.specs.UnderWay.{IsUnderWay}
use Rattle.nav_poll.specs.declared.link.Counts.{Counts}

-- a session at a board over a link
pub record Polling (B K : Type 0) : Type 0 where
  pub desk : OnDesk
  pub board : B
  pub link : K
  pub reader : Reading
  -- the bytes of its replies that are still to be pushed
  pub out : List ℕ
  -- how many lines it answered, and whether the last of them ended it
  pub lines : ℕ
  pub quit : Bool
  -- the status with which it ended, once it has
  pub ended : Option ℕ

-- what is seen of a session: where it stands between its lines, what its link holds, what is still to be pushed, how many
-- lines it answered, whether the last one ended it, and the status, once it has ended
pub record Seen : Type 0 where
  pub now : Spot
  pub held : Option (List ℕ)
  pub out : List ℕ
  pub lines : ℕ
  pub quit : Bool
  pub ended : Option ℕ

-- that of a session, by what tells a board's seat, log and pin, and what a link has left and holds
abbrev pub seen : {B K : Type 0} → (B → ℕ) → (B → List Entry) → (B → ℕ) → (K → Option (List ℕ)) → (K → Option (List ℕ))
    → Polling B K → Seen
seen seat log pin left held p = record {
  now = spot (moment (seat p.board) (log p.board) (pin p.board) p.desk) p.reader (left p.link);
  held = held p.link;
  out = p.out;
  lines = p.lines;
  quit = p.quit;
  ended = p.ended;
}

-- A start: the seat of the board's holder and the log that it had seen, what the link held, and the bytes that were still
-- to come.
pub record Start : Type 0 where
  pub seat : ℕ
  pub log : List Entry
  pub held : Option (List ℕ)
  pub left : Option (List ℕ)

-- the start of these parts
abbrev pub start_at : ℕ → List Entry → Option (List ℕ) → Option (List ℕ) → Start
start_at seat log held left = record { seat = seat; log = log; held = held; left = left }

-- since the start a session was served that ended with the status
abbrev pub HasServed : Start → Seen → ℕ → Type 0
HasServed s v status =
    Serves s.seat s.log v.now.session.log s.left v.now.left s.held v.held status

-- Since the start this text is written: of a session that is under way, or of one that an accepted `quit` ended.
abbrev pub IsWritten : Start → Seen → List ℕ → Type 0
IsWritten s v text =
    MatchBool v.quit
    (Serves s.seat s.log v.now.session.log s.left v.now.left (Some []) (Some text) 0)
    (IsUnderWay v.lines s.seat s.log s.left (Some []) v.now (Some text))

-- Since the start a session goes on. What its link took, and what is still to be pushed behind it, are what is written by
-- now of a session over a source and a sink.
pub record IsGoing (s : Start) (v : Seen) : Type 0 where
  pub pushed : List ℕ
  pub holds : v.held ≡ append_known s.held pushed
  pub few : v.lines ≤ max_lines
  pub written : IsWritten s v (pushed ++ v.out)

-- The status of which as much is said as of a session so far: while it goes on, that of one which was refused memory, of
-- which no more is said than what it answered and that a beginning of the replies is written.
abbrev pub status_so_far : Option ℕ → ℕ
status_so_far None = 5
status_so_far (Some status) = status

-- The session stands for the start: it was served since as far as it is, and goes on from there until it has ended.
pub record StandsFor (s : Start) (v : Seen) : Type 0 where
  pub served : HasServed s v (status_so_far v.ended)
  pub goes_on : v.ended ≡ None → IsGoing s v

-- Each start for which a session stood before is one for which it stands now.
abbrev pub KeepsStarts : Seen → Seen → Type 0
KeepsStarts old new = (s : Start) → StandsFor s old → StandsFor s new

-- The link took the replies to all whole lines that were pulled since the start, as where a session's source fails.
abbrev pub HasCaughtUp : Start → Seen → Type 0
HasCaughtUp s v = HasServed s v 3

-- the same of each start for which the session stands
abbrev pub HaveCaughtUp : Seen → Type 0
HaveCaughtUp v = (s : Start) → StandsFor s v → HasCaughtUp s v

-- The session waits for its link, whose counts were these before the poll and are these now: that of the write waits rose,
-- or that of the read waits did, and all whole lines that were pulled are answered and the replies pushed.
abbrev pub WaitsForLink : Counts → Counts → Seen → Type 0
WaitsForLink before after v =
    HasRisen before.write_waits after.write_waits
    ⊎ (HasRisen before.read_waits after.read_waits × HaveCaughtUp v)
