-- What a port did in a call: the links that it gave out, each of which was served for a seat and came back.
use Rattle.std.specs.Prelude.{◌≡◌, ◌≢◌, ℕ, Bool, ◌||◌, ◌==◌, IsTrue, List, [], ◌∷◌, length, map, Option, Some, IfSome, is_none}
use Rattle.std.specs.List.{AllByRecursion, filter}
use Rattle.version_tree.specs.declared.entry.Entry.{Entry}
use Rattle.version_board.specs.declared.board.Pins as boards
use Rattle.std.specs.Io.KnownBytes.{append_known}
use Rattle.nav_io.specs.Faults.{HasRisen}
use Rattle.nav_io.specs.Lines.{lines}
use Rattle.nav_proto.specs.declared.reply.Reply.{Reply}
use Rattle.nav_session.specs.Serving.{Serves, ends_session, ends_unhindered}
use Rattle.nav_session.specs.Transcripts.{IsTranscript, replies_text, max_lines, to_answer}
use Rattle.nav_poll.specs.declared.link.Counts.{Counts}
use Rattle.nav_poll.specs.declared.link.Link as links
use Rattle.nav_poll.specs.Links.{NoneFell}
use Rattle.nav_poll.specs.Polling.{status_so_far}
use Rattle.shared_board.specs.Seats.{Holder}
use Rattle.poll_many.specs.declared.port.Port as ports

-- what is read of ports, of the links that they give out, and of boards
pub record Outside (P B K : Type 0) : Type 0 where
  pub gave : P → Option (List K)
  pub got_back : P → Option (List K)
  pub faults : P → ℕ
  pub settles : P → ℕ
  pub left : K → Option (List ℕ)
  pub held : K → Option (List ℕ)
  pub counts : K → Counts
  pub seat : B → ℕ
  pub log : B → List Entry
  pub pin : B → ℕ

-- what is read of them, by what their traits tell
abbrev pub outside : {P B K : Type 0} → ports.Ghosts P K → links.Ghosts K → boards.Ghosts B
    → Outside P B K
outside port link board = record {
  gave = port.gave;
  got_back = port.got_back;
  faults = port.faults;
  settles = port.settles;
  left = link.left;
  held = link.held;
  counts = link.counts;
  seat = board.seat;
  log = board.log;
  pin = board.pin_at;
}

-- the same where the boards are the seats of one board that threads share
abbrev pub outside_of_seats : {P K : Type 0} → ports.Ghosts P K → links.Ghosts K
    → Outside P Holder K
outside_of_seats port link = outside port link (record {
  log = λ holder. holder.log;
  seat = λ holder. holder.seat;
  pin_at = λ holder. holder.pin;
})

-- A connection: its link as it was given out and as it came back, the seat whose session it had, what that seat had seen
-- of the log before the session and has seen after it, and the status with which it ended; none where it was broken off.
pub record Connection (K : Type 0) : Type 0 where
  pub given : K
  pub back : K
  pub seat : ℕ
  pub before : List Entry
  pub after : List Entry
  pub status : Option ℕ

-- neither of the two counts of faults of a link rose
pub record HasNoFault (old new : Counts) : Type 0 where
  pub read : ¬ HasRisen old.read_faults new.read_faults
  pub write : ¬ HasRisen old.write_faults new.write_faults

-- The connection was served, as a session of its seat. Of one that was broken off as much is said as of one that was
-- refused memory: its lines are the first of those to be answered, and a beginning of the text of their replies was
-- written.
pub record IsServed {P B K : Type 0} (o : Outside P B K) (c : Connection K) : Type 0 where
  pub session : Serves c.seat c.before c.after (o.left c.given) (o.left c.back) (o.held c.given) (o.held c.back) (status_so_far c.status)
  pub ends : IfSome c.status (λ status. IsTrue (ends_session status))
  pub read_failed : c.status ≡ Some 3 → HasRisen (o.counts c.given).read_faults (o.counts c.back).read_faults
  pub write_failed : c.status ≡ Some 4 → HasRisen (o.counts c.given).write_faults (o.counts c.back).write_faults
  pub unhindered : HasNoFault (o.counts c.given) (o.counts c.back) → IfSome c.status (λ status. IsTrue (ends_unhindered status))
  pub counts : NoneFell (o.counts c.given) (o.counts c.back)

-- The link holds, past what it held, the whole text of a transcript of the seat over the log that it has seen at the end;
-- its lines are all of the link's that are to be answered.
pub record IsAnswered {P B K : Type 0} (o : Outside P B K) (c : Connection K) : Type 0 where
  pub answered : List (List ℕ)
  pub replies : List Reply
  pub transcript : IsTranscript c.seat (length c.before) c.after answered replies
  pub all : IfSome (o.left c.given) (λ input. answered ≡ to_answer max_lines (lines input))
  pub holds : o.held c.back ≡ append_known (o.held c.given) (replies_text replies)

-- the connections of a seat, in the order in which they ended
abbrev pub of_seat : {K : Type 0} → ℕ → List (Connection K) → List (Connection K)
of_seat seat cs = filter (λ (c : Connection _). c.seat == seat) cs

-- Sessions followed each other. The first began with this log, and each further one with what was seen when the one before
-- it ended.
abbrev pub FollowEachOther : {K : Type 0} → List Entry → List (Connection K) → List Entry → Type 0
FollowEachOther log [] log' = log' ≡ log
FollowEachOther log (c ∷ cs) log' = (c.before ≡ log) × FollowEachOther c.after cs log'

-- the links of connections as they were given out, and as they came back
abbrev pub links_given : {K : Type 0} → List (Connection K) → List K
links_given cs = map (λ c. c.given) cs

abbrev pub links_back : {K : Type 0} → List (Connection K) → List K
links_back cs = map (λ c. c.back) cs

-- those that were broken off
abbrev pub broken_off : {K : Type 0} → List (Connection K) → List (Connection K)
broken_off cs = filter (λ (c : Connection _). is_none c.status) cs

-- none of them was refused memory
abbrev pub HaveMemory : {K : Type 0} → List (Connection K) → Type 0
HaveMemory cs = AllByRecursion (λ (c : Connection _). c.status ≢ Some 5) cs

-- whether serving a port, or the one of a yard, may end with the status
abbrev pub ends_port : ℕ → Bool
ends_port status = status == 0 || status == 5 || status == 8
