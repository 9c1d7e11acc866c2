-- Nothing was pulled, answered or pushed.
use Rattle.std.proofs.Common.{refl, [], None, false}
use Rattle.nav_session.specs.Desks.{moment}
use Rattle.nav_poll.proofs.Standing.{begins}
use Rattle.nav_poll.proofs.polled.Polled.start.Goals as goal

pub returns-in-Ok-clause-stands : goal.returns-in-Ok-clause-stands
returns-in-Ok-clause-stands g c =
    rw (c.clear.ensures, c.in-Ok.ensures.empty, c.new-in-Ok.ensures.items)
    (begins
    (moment (g.B.Pins.seat c.args.board) (g.B.Pins.log c.args.board) (g.B.Pins.pin_at c.args.board) (record { store = c.args.desk.store; user = None; view = None; keeps = c.args.desk.keeps }))
    (record { front = []; ended = false }) (g.K.Link.held c.args.link) (g.K.Link.left c.args.link) refl refl refl)
