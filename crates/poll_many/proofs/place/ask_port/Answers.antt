-- The link began a session, or starved.
use Rattle.poll_many.specs.Connections.{outside}
use Rattle.poll_many.proofs.PlaceSteps.{began_with}
use Rattle.poll_many.proofs.place.ask_port.Goals as goal

pub returns-in-Ok-Link-clause-takes : goal.returns-in-Ok-Link-clause-takes
returns-in-Ok-Link-clause-takes g c =
    began_with (outside g.P.Port g.P.K.Link g.B.Pins)
    c.args.desk c.args.board c.in-Ok-Link.link c.begin.new.place c.args.port.now c.accept.new.self c.begin.new.port
    (rw c.in-Ok-Link.field-0-is at c.in-Ok-Link.ensures.given) c.in-Ok-Link.ensures.back (rw c.in-Ok-Link.field-0-is at c.in-Ok-Link.ensures.out) c.begin.ensures.begins
