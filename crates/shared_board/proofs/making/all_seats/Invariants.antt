use Rattle.shared_board.specs.Seats.{AreNewcomers}
use Rattle.shared_board.proofs.making.all_seats.Given as goal

-- so many seats are made, each with its name
abbrev pub invariant-loop-name : goal.invariant-loop-name
invariant-loop-name g l = AreNewcomers l.name l.all.items
