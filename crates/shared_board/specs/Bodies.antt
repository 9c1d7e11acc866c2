-- What goes with a log that is published; no public clause cites this.
use Rattle.std.specs.Prelude.{◌≡◌, ◌≢◌, ℕ, ◌+◌, ◌<◌, ◌≤◌, List, [], length, slice_index, Option, None, Some}
use Rattle.std.specs.Arc.{arc_value}
use Rattle.version_tree.specs.declared.edit.Edit.{Edit}
use Rattle.version_tree.specs.declared.edit.EditFault.{EditFault}
use Rattle.version_tree.specs.declared.edit.EditFault.TheVariants.{NoMemory}
use Rattle.version_tree.specs.declared.entry.Entry.{Entry}
use Rattle.version_tree.specs.Contents.{Numbered, edited_all}
use Rattle.version_tree.specs.Verdict.{edit_fault}
use Rattle.root_index.specs.Roots.{IsIndexOf}
use Rattle.version_board.specs.declared.board.Pinned.{Pinned}
use Rattle.version_board.specs.Logs.{version_of, own, FitsHead}
use Rattle.shared_board.specs.declared.body.Body.{Body}

-- the version with the index of its paths from the root
pub record IsIndexed (p : Pinned) (v : Numbered) : Type 0 where
  pub version : arc_value p.version ≡ v
  pub index : IsIndexOf (arc_value p.version).content.rows (arc_value p.index)

-- how many entries of the log each seat has; no other has any
pub record AreCounts (counts : List ℕ) (log : List Entry) : Type 0 where
  pub each : (seat : ℕ) → seat < length counts → slice_index counts seat ≡ length (own seat log)
  pub none : (seat : ℕ) → length counts ≤ seat → own seat log ≡ []

-- the body of a log, on a board with so many seats
pub record IsBodyOf (seats : ℕ) (body : Body) (log : List Entry) : Type 0 where
  pub pinned : IsIndexed body.pinned (version_of log)
  pub counts : AreCounts body.counts.items log
  pub all : length body.counts.items ≡ seats

-- the version that the edits make of another, which takes them, and whose number a base fits
pub record IsNext (base : Option ℕ) (edits : List Edit) (v : Numbered) (p : Pinned) : Type 0 where
  pub base_fits : FitsHead base v.number
  pub fit : edit_fault v.number v.content edits ≡ None
  pub next : IsIndexed p (record { number = v.number + 1; content = edited_all edits v.content })

-- the version refuses the edits for that reason, which isn't want of memory, and a base fits its number
pub record Refuses (base : Option ℕ) (edits : List Edit) (v : Numbered) (fault : EditFault) : Type 0 where
  pub base_fits : FitsHead base v.number
  pub there : edit_fault v.number v.content edits ≡ Some fault
  pub definite : fault ≢ NoMemory
