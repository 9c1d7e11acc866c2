-- The session ended, and its link came back.
use Rattle.std.proofs.Common.{◌∙◌, ap}
use Rattle.futures.specs.declared.task.Poll.TheVariants.{Ready}
use Rattle.poll_many.specs.Connections.{outside}
use Rattle.poll_many.proofs.PlaceSteps.{ended_now}
use Rattle.poll_many.proofs.place.poll_open.Goals as goal

pub returns-in-Ready-clause-takes : goal.returns-in-Ready-clause-takes
returns-in-Ready-clause-takes g c =
    ended_now (outside g.P.Port g.P.K.Link g.B.Pins)
    c.args.session c.poll_once.new.polled c.in-Ready.status c.close-desk.result.0 c.close-desk.result.1 c.close-desk.result.2 c.put-in-Ready.new.place
    c.args.port.now c.done.new.self c.requires.standing c.in-Ready.ensures.stands c.in-Ready.ensures.seat c.in-Ready.ensures.counts
    c.in-Ready.ensures.ready (c.in-Ready.ensures.statuses c.requires.standing.going)
    (λ three. c.in-Ready.ensures.read_failed (ap Ready three) c.requires.standing.going)
    (λ four. c.in-Ready.ensures.write_failed (ap Ready four) c.requires.standing.going)
    c.close-desk.ensures.board c.close-desk.ensures.link (c.put-in-Ready.ensures ∙ c.rest_of.ensures) c.done.ensures.given c.done.ensures.back
