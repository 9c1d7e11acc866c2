-- The desk was made for this door, so it has no documents at first, and keeps its part.
use Rattle.nav_session.specs.Desks.{share}
use Rattle.nav_doors.specs.Connections.{outside}
use Rattle.nav_doors.proofs.Placed.{from_empty}
use Rattle.nav_doors.proofs.doors.serve_counted.Goals as goal

pub returns-clause-served : goal.returns-clause-served
returns-clause-served g c =
    from_empty (outside g.D.Door.gave g.D.Door.got_back g.D.Door.faults g.D.S.Source.left g.D.S.Source.faults g.D.K.Sink.held g.D.K.Sink.faults)
    (g.B.Pins.seat c.args.seat.now) (share c.args.doors) c.args.connections c.args.door.now c.serve_door.new.door
    (g.B.Pins.log c.args.seat.now) (g.B.Pins.log c.serve_door.new.seat) c.sharing-desk.result c.serve_door.new.desk c.serve_door.result
    c.sharing-desk.ensures.desk c.serve_door.ensures.served
