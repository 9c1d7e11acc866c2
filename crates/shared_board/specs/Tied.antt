-- What is known of seats while they are brought together; no public clause cites this.
use Rattle.std.specs.Prelude.{◌≡◌, ℕ, ◌-◌, ◌<◌, ◌≤◌, List, [], length, slice_get, Some}
use Rattle.version_tree.specs.declared.entry.Entry.{Entry}
use Rattle.version_board.specs.Logs.{own, Begins}
use Rattle.shared_board.specs.Seats.{Holder, HaveLearnt}

-- the log begins with what each of these has seen
abbrev pub AllBegin : List Holder → List Entry → Type 0
AllBegin seats log = (seat : ℕ) (holder : Holder) → slice_get seats seat ≡ Some holder → Begins holder.log log

-- so many seats had seen no more than the last of them has seen now; and each has at most learnt
pub record HavePassed (count : ℕ) (before now : List Holder) : Type 0 where
  pub learnt : HaveLearnt before now
  pub begin : (seat : ℕ) (old new : Holder) → seat < count → slice_get before seat ≡ Some old → slice_get now (count - 1) ≡ Some new → Begins old.log new.log

-- the log has as many entries of each seat as that one has seen, and none of another
pub record HaveOwn (seats : List Holder) (log : List Entry) : Type 0 where
  pub each : (seat : ℕ) (holder : Holder) → slice_get seats seat ≡ Some holder → length (own seat log) ≡ length (own seat holder.log)
  pub others : (seat : ℕ) → length seats ≤ seat → own seat log ≡ []
