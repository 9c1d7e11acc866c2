-- Logs of versions, and what a holder of a board has seen of one.
use Rattle.std.specs.Prelude.{◌≡◌, ◌≢◌, ℕ, ◌==◌, List, [], ◌∷◌, ◌++◌, length, Option, None, Some}
use Rattle.std.specs.List.{filter}
use Rattle.version_tree.specs.declared.edit.Edit.{Edit}
use Rattle.version_tree.specs.declared.edit.EditFault.{EditFault}
use Rattle.version_tree.specs.declared.edit.EditFault.TheVariants.{NoMemory}
use Rattle.version_tree.specs.declared.entry.Entry.{Entry}
use Rattle.version_tree.specs.Contents.{Numbered, replay}
use Rattle.version_tree.specs.Verdict.{edit_fault}

-- the version that a log makes: its number is the log's length
abbrev pub version_of : List Entry → Numbered
version_of log = record { number = length log; content = replay log }

-- the entries of a seat
abbrev pub own : ℕ → List Entry → List Entry
own seat log = filter (λ (e : Entry). e.seat == seat) log

-- the entry of these edits by the seat, with that number of its own
abbrev pub entry : ℕ → ℕ → List Edit → Entry
entry seat serial edits = record { seat = seat; serial = serial; edits = edits }

-- the one begins the other
abbrev pub Begins : List Entry → List Entry → Type 0
Begins before after = (more : List Entry) × (before ++ more ≡ after)

-- what is seen afterwards begins with what was seen before, and has no further entry of the seat
pub record IsLater (seat : ℕ) (before after : List Entry) : Type 0 where
  pub begins : Begins before after
  pub own_stay : own seat after ≡ own seat before

-- the base, where one is given, is the head
abbrev pub FitsHead : Option ℕ → ℕ → Type 0
FitsHead base head = (b : ℕ) → base ≡ Some b → b ≡ head

-- what refuses the edits on the version of the log
abbrev pub refusal : List Entry → List Edit → Option EditFault
refusal log edits = edit_fault (length log) (replay log) edits

-- exactly one entry is appended, with the seat's name and its next number, to a log that begins with all that was
-- seen before and has no further entry of the seat; its version takes the edits
pub record IsExtended (seat : ℕ) (base : Option ℕ) (edits : List Edit) (before after : List Entry) : Type 0 where
  pub head : List Entry
  pub later : IsLater seat before head
  pub base_fits : FitsHead base (length head)
  pub fit : refusal head edits ≡ None
  pub appended : after ≡ head ++ entry seat (length (own seat before)) edits ∷ []

-- a base was given that isn't the head, which is told
abbrev pub IsStale : Option ℕ → ℕ → ℕ → Type 0
IsStale base head told = (told ≡ head) × ¬ FitsHead base head

-- the edits are refused for that reason, which isn't want of memory, on a log whose length a base fits
pub record IsRefused (base : Option ℕ) (edits : List Edit) (log : List Entry) (fault : EditFault) : Type 0 where
  pub base_fits : FitsHead base (length log)
  pub there : refusal log edits ≡ Some fault
  pub definite : fault ≢ NoMemory
