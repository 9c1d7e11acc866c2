-- The session was at the place.
use Rattle.std.proofs.Common.{◌∙◌, sym, subst}
use Rattle.poll_many.specs.Connections.{outside}
use Rattle.poll_many.specs.Places.{TakesTurn}
use Rattle.poll_many.proofs.place.take_turn.Goals as goal

pub returns-in-Busy-clause-takes : goal.returns-in-Busy-clause-takes
returns-in-Busy-clause-takes g c =
    subst (λ p. TakesTurn (outside g.P.Port g.P.K.Link g.B.Pins) p c.poll_open.new.place c.args.port.now c.poll_open.new.port c.poll_open.result)
    (sym (sym c.replace.ensures.value ∙ c.in-Busy.is)) c.poll_open.ensures.takes
