use Rattle.shared_board.proofs.Fronts.{begins_self}
use Rattle.shared_board.proofs.seat.SeatOf.learn.Goals as goal

pub returns-then-begins-clause-theirs : goal.returns-then-begins-clause-theirs
returns-then-begins-clause-theirs g c = rw (c.advance.ensures.log, ← c.note.view_is) (begins_self c.note.inside.head)
