use Rattle.shared_board.proofs.Fronts.{begins_self}
use Rattle.shared_board.proofs.note.SeatOf+J+Shared+J+R.tell.Goals as goal

-- the seat's own head is shared, where the newest one isn't seen to go on from it
pub returns : goal.returns
returns g c = rw (c.in_ok-head.ensures, ← c.self.view_is) (begins_self c.self.inside.head)
