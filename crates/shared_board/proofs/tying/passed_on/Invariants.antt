use Rattle.shared_board.specs.Tied.{HavePassed}
use Rattle.shared_board.proofs.tying.passed_on.Given as goal

-- so many seats have passed on what they had seen
abbrev pub invariant-loop-n : goal.invariant-loop-n
invariant-loop-n g l = HavePassed l.n l.fn.seats l.seats
