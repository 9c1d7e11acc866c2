-- The places have all seats, and behind the rounds the seats are taken from them again.
use Rattle.std.proofs.Common.{inr, refl, ap, subst, ◌∙◌}
use Rattle.poll_many.specs.Connections.{outside}
use Rattle.poll_many.specs.Settling.{SettlesBehindRounds}
use Rattle.poll_many.specs.Places.{boards_of}
use Rattle.poll_many.proofs.PortServed.{first_round, over_all}
use Rattle.poll_many.proofs.Settled.{settled_at_first}
use Rattle.poll_many.proofs.finishing.serve_all.Goals as goal

pub serve_places-status-requires-clause-under_way : goal.serve_places-status-requires-clause-under_way
serve_places-status-requires-clause-under_way g c _ _ =
    first_round (outside g.P.Port g.P.K.Link g.B.Pins)
    (record { port = c.of.result; seats = c.of-2.result; most = c.args.connections }) c.args.port.now c.args.seats.now.items
    c.in-Ok.places.items c.as_mut_slice.result.now c.of.ensures (ap (λ v. v.items) c.of-2.ensures) c.as_mut_slice.ensures.value
    c.in-Ok.ensures.seats c.in-Ok.ensures.free c.requires.names

pub returns-clause-served : goal.returns-clause-served
returns-clause-served g c =
    let w = over_all c.in-Ok.places.len c.as_mut_slice.result.now c.serve_places-status.new.places c.in-Ok.places.items
    c.serve_places-status.ensures.len c.as_mut_slice.ensures.value c.as_mut_slice.ensures.len in
    inr (record {
      call = record { port = c.of.result; seats = c.of-2.result; most = c.args.connections };
      most_is = refl;
      port_is = c.of.ensures;
      seats_are = ap (λ v. v.items) c.of-2.ensures;
      places = c.serve_places-status.new.places;
      finished = c.serve_places-status.ensures.finished;
      left = c.take_apart.ensures ∙ ap boards_of w;
    })

pub returns-in_default-clause-settled : goal.returns-in_default-clause-settled
returns-in_default-clause-settled g c =
    settled_at_first (outside g.P.Port g.P.K.Link g.B.Pins)
    c.args.port.now c.args.port.now refl

pub returns-clause-settled : goal.returns-clause-settled
returns-clause-settled g c =
    subst (λ first. SettlesBehindRounds (outside g.P.Port g.P.K.Link g.B.Pins) first c.serve_places-status.new.port)
    c.of.ensures c.serve_places-status.ensures.settled
