use Rattle.std.proofs.Common.{◌∙◌, ap}
use Rattle.nav_doors.specs.Connections.{outside}
use Rattle.nav_doors.specs.Inside.{doors_of, seats_of, statuses_of}
use Rattle.nav_doors.specs.Doors.{status_of_all}
use Rattle.nav_doors.proofs.Placed.{served_all, worst_of, written}
use Rattle.nav_doors.proofs.doors.serve_all.Goals as goal

-- what was served place by place, as the lists are named
pub returns-clause-all : goal.returns-clause-all
returns-clause-all g c =
    let w = written c.in-Ok.places.len c.as_mut_slice.result.now c.serve_places.new.places c.in-Ok.places.items
    c.serve_places.ensures.len c.as_mut_slice.ensures.value c.as_mut_slice.ensures.len in
    served_all (outside g.D.Door.gave g.D.Door.got_back g.D.Door.faults g.D.S.Source.left g.D.S.Source.faults g.D.K.Sink.held g.D.K.Sink.faults)
    g.B.Pins.seat g.B.Pins.log c.args.connections c.as_mut_slice.result.now c.serve_places.new.places
    c.args.doors.now.items c.take_apart.new.doors.items c.args.seats.now.items c.take_apart.new.seats.items c.status_of-status.result
    c.serve_places.ensures.len c.serve_places.ensures.each
    (ap doors_of c.as_mut_slice.ensures.value ∙ c.in-Ok.ensures.doors)
    (ap seats_of c.as_mut_slice.ensures.value ∙ c.in-Ok.ensures.seats)
    (c.take_apart.ensures.doors ∙ ap doors_of w)
    (c.take_apart.ensures.seats ∙ ap seats_of w)
    (c.status_of-status.ensures ∙ (worst_of c.deref.result.now ∙ ap (λ places. status_of_all (statuses_of places)) (c.deref.ensures.value ∙ w)))
