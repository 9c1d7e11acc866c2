-- Memory for the seats was refused.
use Rattle.poll_many.specs.Connections.{outside_of_seats}
use Rattle.poll_many.specs.Yards.{yard_at}
use Rattle.poll_many.proofs.Yarded.{opened_nothing}
use Rattle.poll_many.proofs.running.serve_on.Goals as goal

pub returns-in_default-clause-served : goal.returns-in_default-clause-served
returns-in_default-clause-served g c =
    opened_nothing
    (outside_of_seats g.Y.P.Port g.Y.P.K.Link)
    c.args.wanted.seats c.args.wanted.connections
    (yard_at g.Y.Yard c.args.yard.now)
