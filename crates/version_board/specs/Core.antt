-- The core of sessions at once, apart from threads and memory: one log, and what each seat has seen of it and pins.
-- Each step of a session is one of these, whatever the order in which they come. What may be asked of a version is left
-- open: an exchange, a question with its reply, is of any type `E`, with a relation that tells which are due over which
-- files.
use Rattle.std.specs.Prelude.{◌≡◌, ◌≤◌, ◌+◌, ◌==◌, ℕ, List, [], ◌∷◌, ◌++◌, length, take, drop, Option, None, Some, IsSomeAnd, ◌⊎◌, ⊤, if◌then◌else◌}
use Rattle.version_tree.specs.declared.edit.Edit.{Edit}
use Rattle.version_tree.specs.declared.edit.EditFault.{EditFault}
use Rattle.version_tree.specs.declared.entry.Entry.{Entry}
use Rattle.version_tree.specs.Contents.{replay, granted_rows}
use Rattle.version_tree.specs.Graphs.{GraphRow, graph_rows}
use Rattle.version_board.specs.Logs.{own, entry, refusal, FitsHead}

-- the log; how much of it each seat has seen, and how much makes its pinned version, where it has pinned one
pub record Machine : Type 0 where
  pub log : List Entry
  pub seen : ℕ → ℕ
  pub pin : ℕ → Option ℕ

-- before the first step
abbrev pub opening : Machine
opening = record { log = []; seen = λ _. 0; pin = λ _. None }

-- one step of a seat
pub data Step (E : Type 0) : Type 0 where
  -- the seat sees so many entries and pins their version
  Pin : ℕ → ℕ → Step E
  -- its edits, on that base, are accepted, or refused
  Accept : ℕ → Option ℕ → List Edit → Step E
  Refuse : ℕ → Option ℕ → List Edit → Step E
  -- memory is wanting for its edits; so many entries are seen then
  Want : ℕ → ℕ → Step E
  -- it learns of so many entries by a note, and sees so many then
  Learn : ℕ → ℕ → ℕ → Step E
  -- a user asks about its pinned version, and is replied
  Ask : ℕ → List ℕ → E → Step E

-- the same for each other seat
abbrev pub at_seat : {X : Type 0} → ℕ → X → (ℕ → X) → ℕ → X
at_seat seat x f other = if other == seat then x else f other

-- the log with the seat's next entry
abbrev pub log_with : ℕ → List Edit → List Entry → List Entry
log_with seat edits log = log ++ entry seat (length (own seat log)) edits ∷ []

-- what each step makes of the machine
abbrev pub after : {E : Type 0} → Step E → Machine → Machine
after (Pin seat n) m = record { log = m.log; seen = at_seat seat n m.seen; pin = at_seat seat (Some n) m.pin }
after (Accept seat base edits) m = record {
  log = log_with seat edits m.log;
  seen = at_seat seat (length m.log + 1) m.seen;
  pin = at_seat seat (Some (length m.log + 1)) m.pin;
}
after (Refuse seat base edits) m = record { log = m.log; seen = at_seat seat (length m.log) m.seen; pin = m.pin }
after (Want seat n) m = record { log = m.log; seen = at_seat seat n m.seen; pin = m.pin }
after (Learn seat note n) m = record { log = m.log; seen = at_seat seat n m.seen; pin = m.pin }
after (Ask seat user exchange) m = m

-- the graphs of the files that the user sees of the version that so many entries of the log make
abbrev pub files_at : List Entry → List ℕ → ℕ → List GraphRow
files_at log user n = graph_rows (granted_rows user (replay (take n log)))

-- which exchanges are due over which files
abbrev pub DueOver : Type 0 → Type 1
DueOver E = List GraphRow → E → Type 0

-- the exchange is due over the files that the user sees of the version that is pinned, and there is one
abbrev pub IsDueAt : {E : Type 0} → DueOver E → List Entry → Option ℕ → List ℕ → E → Type 0
IsDueAt IsDue log pin user exchange = IsSomeAnd pin (λ n. IsDue (files_at log user n) exchange)

-- which steps there are then
abbrev pub IsAllowed : {E : Type 0} → DueOver E → Step E → Machine → Type 0
IsAllowed IsDue (Pin seat n) m = (m.seen seat ≤ n) × (n ≤ length m.log)
IsAllowed IsDue (Accept seat base edits) m = FitsHead base (length m.log) × (refusal m.log edits ≡ None)
IsAllowed IsDue (Refuse seat base edits) m =
    (¬ FitsHead base (length m.log))
    ⊎ (FitsHead base (length m.log) × (fault : EditFault) × (refusal m.log edits ≡ Some fault))
IsAllowed IsDue (Want seat n) m = (n ≡ m.seen seat) ⊎ (n ≡ length m.log)
IsAllowed IsDue (Learn seat note n) m = (m.seen seat ≤ n) × (note ≤ n) × (n ≤ length m.log)
IsAllowed IsDue (Ask seat user exchange) m = IsDueAt IsDue m.log (m.pin seat) user exchange

-- the state after several steps, one after the other
abbrev pub after_all : {E : Type 0} → List (Step E) → Machine → Machine
after_all [] m = m
after_all (step ∷ steps) m = after_all steps (after step m)

-- each of the steps is allowed when it comes
abbrev pub AreAllowed : {E : Type 0} → DueOver E → List (Step E) → Machine → Type 0
AreAllowed IsDue [] m = ⊤
AreAllowed IsDue (step ∷ steps) m = IsAllowed IsDue step m × AreAllowed IsDue steps (after step m)

-- the edits of the seat's accepted commits, in order
abbrev pub accepted_by : {E : Type 0} → ℕ → Step E → List (List Edit)
accepted_by seat (Accept other base edits) = if other == seat then edits ∷ [] else []
accepted_by seat (Pin other n) = []
accepted_by seat (Refuse other base edits) = []
accepted_by seat (Want other n) = []
accepted_by seat (Learn other note n) = []
accepted_by seat (Ask other user exchange) = []

-- those of all steps together
abbrev pub accepted : {E : Type 0} → ℕ → List (Step E) → List (List Edit)
accepted seat [] = []
accepted seat (step ∷ steps) = accepted_by seat step ++ accepted seat steps

-- the seat's entries with these edits, numbered from there on
abbrev pub numbered_from : ℕ → ℕ → List (List Edit) → List Entry
numbered_from seat serial [] = []
numbered_from seat serial (edits ∷ more) = entry seat serial edits ∷ numbered_from seat (serial + 1) more

-- a pin never falls: where there was one there is one that is no less
abbrev pub IsNoLess : Option ℕ → Option ℕ → Type 0
IsNoLess None after = ⊤
IsNoLess (Some n) None = ⊥
IsNoLess (Some n) (Some after) = n ≤ after

-- what holds after any allowed steps: the seat has seen no more than there is, and pins no more than it has seen; its
-- entries are its accepted commits, numbered from 0; and it has seen all of them
pub record IsSound {E : Type 0} (steps : List (Step E)) (m : Machine) (seat : ℕ) : Type 0 where
  pub seen : m.seen seat ≤ length m.log
  pub pinned : IsNoLess (m.pin seat) (Some (m.seen seat))
  pub own_entries : own seat m.log ≡ numbered_from seat 0 (accepted seat steps)
  pub all_seen : own seat (drop (m.seen seat) m.log) ≡ []

-- and by each step what is seen and what is pinned never falls
pub record IsOnward (seat : ℕ) (before after : Machine) : Type 0 where
  pub seen : before.seen seat ≤ after.seen seat
  pub pin : IsNoLess (before.pin seat) (after.pin seat)

-- A question that came right behind some steps has the reply that is due at the pin that its seat had then, in the log
-- as it is at the end.
abbrev pub IsReplied : {E : Type 0} → DueOver E → ℕ → List (Step E) → Machine → Machine → Type 0
IsReplied {E} IsDue seat more before after =
    (user : List ℕ) (exchange : E) (others : List (Step E)) → more ≡ Ask seat user exchange ∷ others
    → IsDueAt IsDue after.log (before.pin seat) user exchange

-- What holds of a seat where some steps were made, and then more.
pub record Holds {E : Type 0} (IsDue : DueOver E) (seat : ℕ) (steps more : List (Step E)) (before after : Machine) : Type 0 where
  pub sound : IsSound (steps ++ more) after seat
  pub onward : IsOnward seat before after
  pub replied : IsReplied IsDue seat more before after

-- After any allowed steps each seat is sound, more steps take back nothing that it has seen or pinned, and each question
-- is answered at the seat's pin.
abbrev pub CoreLaw : {E : Type 0} → DueOver E → Type 0
CoreLaw {E} IsDue =
    (steps more : List (Step E)) (seat : ℕ) → AreAllowed IsDue (steps ++ more) opening
    → Holds IsDue seat steps more (after_all steps opening) (after_all (steps ++ more) opening)
