use Rattle.shared_board.specs.Seats.{HaveLearnt}
use Rattle.shared_board.proofs.tying.tie.Given as goal

-- the seats have at most learnt
abbrev pub invariant-loop : goal.invariant-loop
invariant-loop g l = HaveLearnt l.fn.seats l.seats
