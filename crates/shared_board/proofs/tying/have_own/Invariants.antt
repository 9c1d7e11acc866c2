use Rattle.std.proofs.Common.{◌≡◌, ◌<◌, ℕ, length, slice_get, Some}
use Rattle.version_board.specs.Logs.{own}
use Rattle.shared_board.specs.Seats.{Holder}
use Rattle.shared_board.proofs.tying.have_own.Given as goal

-- the last seat finds as many entries of each one so far as that one does
abbrev pub invariant-loop-seat : goal.invariant-loop-seat
invariant-loop-seat g l =
    (seat : ℕ) (holder : Holder) → seat < l.seat-index → slice_get l.seats seat ≡ Some holder → length (own seat l.last.log) ≡ length (own seat holder.log)
