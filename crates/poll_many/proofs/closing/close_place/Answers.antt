-- The link came back, and the seat is free.
use Rattle.std.proofs.Common.{sym, ◌∙◌}
use Rattle.poll_many.specs.Connections.{outside}
use Rattle.poll_many.proofs.PlaceSteps.{broken_off_at}
use Rattle.poll_many.proofs.closing.close_place.Goals as goal

pub returns-in-Busy-clause-closes : goal.returns-in-Busy-clause-closes
returns-in-Busy-clause-closes g c =
    rw c.put.ensures (broken_off_at (outside g.P.Port g.P.K.Link g.B.Pins)
    c.args.place.now c.in-Busy.session c.close-desk.result.0 c.close-desk.result.1 c.close-desk.result.2 c.args.port.now c.done.new.self
    (sym c.replace.ensures.value ∙ c.in-Busy.is) c.requires.standing c.close-desk.ensures.board c.close-desk.ensures.link c.done.ensures.given c.done.ensures.back)
