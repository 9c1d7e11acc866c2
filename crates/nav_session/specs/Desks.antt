-- What a session keeps on its desk, and what a line makes of it.
use Rattle.std.specs.Prelude.{◌≡◌, ℕ, ◌/◌, List, [], ◌∷◌, ◌++◌, length, Bool, true, false, Option, IfSome, Result, Ok, Err, take, if◌then◌else◌, MatchBool}
use Rattle.std.specs.Option.{option_map}
use Rattle.path_store.specs.Documents.{Doc}
use Rattle.path_store.specs.Store.{Kept, swept}
use Rattle.version_tree.specs.declared.entry.Entry.{Entry}
use Rattle.version_tree.specs.Contents.{FileRow, replay, granted_rows}
use Rattle.version_board.specs.declared.board.Pins as boards
use Rattle.version_board.specs.Logs.{Begins, own}
use Rattle.index_gate.specs.Indexed.{AddsMissing}
use Rattle.nav_proto.specs.declared.proto_fault.ProtoFault.{ProtoFault}
use Rattle.nav_proto.specs.declared.reply.Reply.{Reply}
use Rattle.nav_proto.specs.declared.reply.Reply.TheVariants.{Version, Plain, Stale, Twice, AbsentFile, AbsentGrant, TooManyFiles, TooHeavy}
use Rattle.nav_proto.specs.declared.reply.PlainError.{PlainError}
use Rattle.nav_proto.specs.declared.reply.PlainError.TheVariants.{Spent}
use Rattle.nav_proto.specs.declared.request.Request.{Request}
use Rattle.nav_proto.specs.declared.request.Request.TheVariants as request
use Rattle.nav_proto.specs.Replies.{reply_text}
use Rattle.nav_proto.specs.Requests.{request_from}
use Rattle.nav_session.specs.Requests.{docs_in}
use Rattle.nav_session.specs.Chains.{IsChain}
use Rattle.nav_session.specs.Sessions.{Session, asker_of, IsReplyTo}
use Rattle.nav_session.specs.Transcripts.{with_newline}

-- a desk: the documents that are kept with their paths, the user, where one is named, what that one sees, where it was
-- looked at, and the most that the documents may cost which are kept when a commit was accepted
pub record OnDesk : Type 0 where
  pub store : List Kept
  pub user : Option (List ℕ)
  pub view : Option (List FileRow)
  pub keeps : ℕ

-- the session of a desk at a board that has seen so many entries and pins so many
abbrev pub session_at : ℕ → ℕ → Option (List ℕ) → Session
session_at seen pin user = record { seen = seen; asker = option_map (asker_of pin) user }

-- what the desk keeps of a view is what its user sees of the version that is pinned
abbrev pub HasItsView : OnDesk → List Entry → ℕ → Type 0
HasItsView desk log pin =
    IfSome desk.view (λ rows. IfSome desk.user (λ user. rows ≡ granted_rows user (replay (take pin log))))

-- the most that the documents may cost which a desk keeps that shares with none
abbrev pub max_cost : ℕ
max_cost = 48000000

-- the most that the documents may cost which desks that share keep together
abbrev pub shared_cost : ℕ
shared_cost = 24000000

-- the part that each of so many desks keeps of that
abbrev pub share : ℕ → ℕ
share desks = shared_cost / desks

-- whether a commit with this reply was accepted, and whether its documents were indexed
abbrev pub is_accepted : Reply → Bool
is_accepted (Version n) = true
is_accepted _ = false

-- whether the error is that the numbers of versions are used up
abbrev pub is_spent : PlainError → Bool
is_spent Spent = true
is_spent _ = false

-- whether the documents of a commit with this reply were indexed: it was accepted, or its edits were refused
abbrev pub is_indexed : Reply → Bool
is_indexed (Version n) = true
is_indexed (Plain error) = is_spent error
is_indexed (Stale head) = true
is_indexed (Twice path) = true
is_indexed (AbsentFile path) = true
is_indexed (AbsentGrant user prefix) = true
is_indexed (TooManyFiles files) = true
is_indexed (TooHeavy weight) = true
is_indexed _ = false

-- the store with the documents that it lacked, and without the oldest ones where the commit was accepted, so that the
-- others cost at most what the desk keeps
pub record AddsDocs (keeps : ℕ) (docs : List Doc) (reply : Reply) (old new : List Kept) : Type 0 where
  pub all : List Kept
  pub adds : AddsMissing docs old all
  pub kept : new ≡ if is_accepted reply then swept keeps all else all

-- what a request with this reply makes of the store of a desk that keeps so much: nothing, but where a commit's documents
-- were indexed
abbrev pub KeepsDocs : ℕ → Request → Reply → List Kept → List Kept → Type 0
KeepsDocs keeps (request.Commit base edits) reply old new =
    MatchBool (is_indexed reply) (AddsDocs keeps (docs_in edits) reply old new) (new ≡ old)
KeepsDocs keeps _ reply old new = new ≡ old

-- the same of a line that was read: one that is no request makes nothing of the store
abbrev pub KeepsDocsOf : ℕ → Result Request ProtoFault → Reply → List Kept → List Kept → Type 0
KeepsDocsOf keeps (Ok request) reply old new = KeepsDocs keeps request reply old new
KeepsDocsOf keeps (Err fault) reply old new = new ≡ old

-- the store has what it had, and maybe documents more behind that
pub record AddsOnly (old new : List Kept) : Type 0 where
  pub added : List Kept
  pub all : new ≡ old ++ added

-- what lines with these replies make of the store of a desk that keeps so much, one after the other
abbrev pub AreKept : ℕ → List (List ℕ) → List Reply → List Kept → List Kept → Type 0
AreKept keeps lines replies old new =
    IsChain (λ was line reply is. KeepsDocsOf keeps (request_from line) reply was is) old lines replies new

-- a session at one moment: its seat, what the seat has seen of the log and how much of it is pinned, and the desk
pub record Moment : Type 0 where
  pub seat : ℕ
  pub log : List Entry
  pub pin : ℕ
  pub desk : OnDesk

-- the moment of these parts
abbrev pub moment : ℕ → List Entry → ℕ → OnDesk → Moment
moment seat log pin desk = record { seat = seat; log = log; pin = pin; desk = desk }

-- the moment of a board, which tells its parts so, and a desk
abbrev pub moment_at : {B : Type 0} → boards.Ghosts B → B → OnDesk → Moment
moment_at tells board desk = moment (tells.seat board) (tells.log board) (tells.pin_at board) desk

-- the session as a transcript sees it
abbrev pub session_of : Moment → Session
session_of m = session_at (length m.log) m.pin m.desk.user

-- what a reply is for, as a relation of the log, the session before, the reply and the session after
abbrev pub ReplyOver : Type 1
ReplyOver = List Entry → Session → Reply → Session → Type 0

-- A reply was given: it is the one that is due over the log as it is then, and the desk's view is that of its user. A
-- reply that accepts nothing leaves the seat's entries as they were.
pub record Replies (IsDue : ReplyOver) (old new : Moment) (reply : Reply) : Type 0 where
  pub due : IsDue new.log (session_of old) reply (session_of new)
  pub view : HasItsView new.desk new.log new.pin
  pub no_entry : is_accepted reply ≡ false → own old.seat new.log ≡ own old.seat old.log

-- whatever comes of a line, the seat stays, what is seen of the log begins with what was seen, and the desk keeps as much
-- as before
pub record GoesOn (old new : Moment) : Type 0 where
  pub seat : new.seat ≡ old.seat
  pub begins : Begins old.log new.log
  pub keeps : new.desk.keeps ≡ old.desk.keeps

-- without a reply no entry of the seat was added, and no document was dropped
pub record IsLeftOff (old new : Moment) : Type 0 where
  pub no_entry : own old.seat new.log ≡ own old.seat old.log
  pub store : AddsOnly old.desk.store new.desk.store

-- A line was answered with this text: that of the reply that is due, with its newline, and the store keeps what it should.
pub record Answers (line : List ℕ) (old new : Moment) (text : List ℕ) : Type 0 where
  pub reply : Reply
  pub printed : text ≡ with_newline (reply_text reply)
  pub due : IsReplyTo old.seat new.log (session_of old) line reply (session_of new)
  pub view : HasItsView new.desk new.log new.pin
  pub store : KeepsDocsOf old.desk.keeps (request_from line) reply old.desk.store new.desk.store
