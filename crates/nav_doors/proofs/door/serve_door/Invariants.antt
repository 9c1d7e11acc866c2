use Rattle.std.proofs.Common.{◌≡◌}
use Rattle.nav_session.specs.Serving.{standing}
use Rattle.nav_doors.specs.Connections.{outside}
use Rattle.nav_doors.proofs.UnderWay.{IsUnderWay}
use Rattle.nav_doors.proofs.door.serve_door.Given as goal

-- as many connections as turns were served, and the seat has its name
abbrev pub invariant-loop : goal.invariant-loop
invariant-loop g l = record {
  under_way : IsUnderWay
      (outside g.D.Door.gave g.D.Door.got_back g.D.Door.faults g.D.S.Source.left g.D.S.Source.faults g.D.K.Sink.held g.D.K.Sink.faults)
      (g.B.Pins.seat l.fn.seat) l.counter l.fn.door l.door (standing (g.B.Pins.log l.fn.seat) l.fn.desk) (standing (g.B.Pins.log l.seat) l.desk);
  seat : g.B.Pins.seat l.seat ≡ g.B.Pins.seat l.fn.seat;
}
