-- What a commit comes to for a seat; no public clause cites this.
use Rattle.std.specs.Prelude.{◌≡◌, ℕ, List, length, MatchOption, MatchResult}
use Rattle.std.specs.declared.option.Option.{Option}
use Rattle.std.specs.declared.result.Result.{Result}
use Rattle.version_tree.specs.declared.edit.Edit.{Edit}
use Rattle.version_tree.specs.declared.edit.EditFault.{EditFault}
use Rattle.version_tree.specs.declared.entry.Entry.{Entry}
use Rattle.version_board.specs.declared.fault.CommitFault.{CommitFault}
use Rattle.version_board.specs.declared.fault.CommitFault.TheVariants.{Stale, Edit as Unfit, NoMemory}
use Rattle.version_board.specs.Logs.{FitsHead, IsLater, IsExtended, IsStale, IsRefused}

-- the fault is that of the edits on a head that is seen, or want of memory, and that only where the base fits
pub record IsFaultAt (seat : ℕ) (base : Option ℕ) (edits : List Edit) (seen : List Entry) (fault : CommitFault) (head : List Entry) : Type 0 where
  pub later : IsLater seat seen head
  pub stale : (n : ℕ) → fault ≡ Stale n → IsStale base (length head) n
  pub refused : (e : EditFault) → fault ≡ Unfit e → IsRefused base edits head e
  pub memory : fault ≡ NoMemory → FitsHead base (length head)

-- a head that ends with the entry; or a fault, with the head that was read, where it can be had
abbrev pub Settles : ℕ → Option ℕ → List Edit → List Entry → Result (List Entry) (CommitFault × Option (List Entry)) → Type 0
Settles seat base edits seen r =
    MatchResult r (λ head. IsExtended seat base edits seen head)
    (λ p. MatchOption p.1 (p.0 ≡ NoMemory) (λ head. IsFaultAt seat base edits seen p.0 head))
