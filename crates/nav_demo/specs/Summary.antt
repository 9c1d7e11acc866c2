-- The summary of a made tree: what the replies to its queries add up to, as a line.
use Rattle.std.specs.Prelude.{◌≡◌, ◌⊎◌, ℕ, ◌+◌, ◌-◌, ◌*◌, ◌%◌, min, Bool, true, false, ◌&&◌, ◌||◌, ◌==◌, nat_lt, if◌then◌else◌, List, [], ◌∷◌, length, take, get_or, Option, None, Some, codes, decimal}
use Rattle.std.specs.List.{concat}
use Rattle.std.specs.Str.{bytes_eq}
use Rattle.std.specs.Io.KnownBytes.{append_known}
use Rattle.version_tree.specs.declared.entry.Entry.{Entry}
use Rattle.version_tree.specs.declared.row.Row.{Row}
use Rattle.version_board.specs.Logs.{Begins, own}
use Rattle.nav_io.specs.Faults.{counted}
use Rattle.nav_io.specs.Write.{HoldsPrefix}
use Rattle.nav_proto.specs.declared.request.Request.{Request}
use Rattle.nav_proto.specs.declared.reply.Reply.{Reply}
use Rattle.nav_proto.specs.declared.reply.Reply.TheVariants.{Rows, Callers, Plain}
use Rattle.nav_proto.specs.declared.reply.PlainError.{PlainError}
use Rattle.nav_proto.specs.declared.reply.PlainError.TheVariants.{Crowded}
use Rattle.nav_session.specs.Sessions.{Session, opened, IsAnswered}
use Rattle.nav_session.specs.Chains.{IsChain}
use Rattle.nav_session.specs.Transcripts.{with_newline}
use Rattle.nav_demo.specs.declared.totals.Totals.{Totals}
use Rattle.nav_demo.specs.MadeTree.{made_path, committing, queries}

-- ---- what a reply holds

-- whether it says that the reference is crowded
abbrev pub is_crowded_error : PlainError → Bool
is_crowded_error Crowded = true
is_crowded_error _ = false

-- whether a reply is that error
abbrev pub is_crowded : Reply → Bool
is_crowded (Plain error) = is_crowded_error error
is_crowded _ = false

-- whether it says that a run was left out for its length or depth
abbrev pub is_limited : Reply → Bool
is_limited (Rows answer) = answer.limit
is_limited _ = false

-- the rows that it answers with
abbrev pub rows_of : Reply → List Row
rows_of (Rows answer) = answer.rows
rows_of (Callers rows) = rows
rows_of _ = []

-- ---- which file a row stands in

-- the number that the four digits of a path of the tree spell
abbrev pub digit_at : List ℕ → ℕ → ℕ
digit_at path n = get_or path n 48 - 48

-- the number of the digits behind the first letter
abbrev pub number_in : List ℕ → ℕ
number_in path = digit_at path 1 * 1000 + digit_at path 2 * 100 + digit_at path 3 * 10 + digit_at path 4

-- which of so many files has this path; None where none has
abbrev pub file_with : ℕ → List ℕ → Option ℕ
file_with files path =
    if nat_lt (number_in path) files && bytes_eq path (made_path (number_in path)) then Some (number_in path) else None

-- ---- the totals

-- before the first reply
abbrev pub nothing : Totals
nothing = record { crowded = 0; limited = 0; references = 0; rows = 0; sum = 0 }

-- the sum with a row in that file, asked for by file k
abbrev pub sum_with : ℕ → ℕ → Option ℕ → ℕ
sum_with k sum None = sum
sum_with k sum (Some n) = (sum + (k + 1) * (n + 1)) % 4294967296

-- the sum with these rows
abbrev pub sum_of_rows : ℕ → ℕ → ℕ → List Row → ℕ
sum_of_rows files k sum [] = sum
sum_of_rows files k sum (row ∷ rows) = sum_of_rows files k (sum_with k sum (file_with files row.path)) rows

-- one more where it is told so, for counts that stay at 2^64 - 1
abbrev pub counted_if : Bool → ℕ → ℕ
counted_if b n = if b then counted n else n

-- the totals with the reply to the query of file k
abbrev pub totals_with : ℕ → ℕ → Totals → Reply → Totals
totals_with files k t reply = record {
  crowded = counted_if (is_crowded reply) t.crowded;
  limited = counted_if (is_limited reply) t.limited;
  references = counted t.references;
  rows = min (t.rows + length (rows_of reply)) 18446744073709551615;
  sum = sum_of_rows files k t.sum (rows_of reply);
}

-- the totals with the replies to the queries of file k and those behind it
abbrev pub totals_after : ℕ → ℕ → Totals → List Reply → Totals
totals_after files k t [] = t
totals_after files k t (reply ∷ replies) = totals_after files (k + 1) (totals_with files k t reply) replies

-- the line that tells the totals, without its newline: its first members, and all of them
abbrev pub first_members : ℕ → Totals → List ℕ
first_members files t =
    concat (codes "{\"crowded\":" ∷ decimal t.crowded ∷ codes ",\"files\":" ∷ decimal files ∷ codes ",\"limited\":" ∷ decimal t.limited ∷ [])

-- the whole line
abbrev pub summary_text : ℕ → Totals → List ℕ
summary_text files t =
    concat (first_members files t ∷ codes ",\"references\":" ∷ decimal t.references ∷ codes ",\"rows\":" ∷ decimal t.rows
    ∷ codes ",\"sum\":" ∷ decimal t.sum ∷ codes "}" ∷ [])

-- ---- the summary

-- the replies to requests, one after the other
abbrev pub AreAnswered : ℕ → List Entry → Session → List Request → List Reply → Session → Type 0
AreAnswered seat log = IsChain (IsAnswered seat log)

-- The text is the summary of the made tree of so many files, drawn from that start: a session of the seat, opened with so
-- many entries seen, was asked to commit the tree and then each query, and these are the totals of the replies to the
-- queries. The log is the whole one, and the seat has no entry but those of that session from there on.
pub record IsSummary (seat begin : ℕ) (log : List Entry) (files start : ℕ) (text : List ℕ) : Type 0 where
  pub committed : List Reply
  pub mid : Session
  pub commits : AreAnswered seat log (opened begin) (committing files start) committed mid
  pub replies : List Reply
  pub last : Session
  pub asked : AreAnswered seat log mid (queries files) replies last
  pub no_other : own seat (take last.seen log) ≡ own seat log
  pub tells : text ≡ summary_text files (totals_after files 0 nothing replies)

-- whether a demonstration may end with the status, and whether it may where the sink had no fault
abbrev pub ends_demo : ℕ → Bool
ends_demo status = status == 0 || status == 4 || status == 5

abbrev pub ends_demo_unhindered : ℕ → Bool
ends_demo_unhindered status = status == 0 || status == 5

-- the sink took the summary and a newline
abbrev pub Writes : ℕ → ℕ → List Entry → Option (List ℕ) → Option (List ℕ) → ℕ → ℕ → Type 0
Writes seat begin log held held' files start =
    (text : List ℕ) × IsSummary seat begin log files start text × (held' ≡ append_known held (with_newline text))

-- it took nothing, or the beginning of a summary and its newline
abbrev pub Begun : ℕ → ℕ → List Entry → Option (List ℕ) → Option (List ℕ) → ℕ → ℕ → Type 0
Begun seat begin log held held' files start =
    (held' ≡ held) ⊎ ((text : List ℕ) × IsSummary seat begin log files start text × HoldsPrefix held (with_newline text) held')

-- The made tree was demonstrated on the board of a seat that saw the first of these logs before, and the second
-- afterwards, and these are what the sink held before and what it holds.
pub record Demonstrates (seat : ℕ) (log log' : List Entry) (held held' : Option (List ℕ)) (files start status : ℕ) : Type 0 where
  pub begins : Begins log log'
  -- with 0 the summary was written, and with any status nothing, or the beginning of it
  pub whole : status ≡ 0 → Writes seat (length log) log' held held' files start
  pub begun : Begun seat (length log) log' held held' files start
