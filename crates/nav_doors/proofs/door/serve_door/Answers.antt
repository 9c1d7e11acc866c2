use Rattle.std.proofs.Common.{◌∙◌, refl}
use Rattle.nav_session.specs.Serving.{standing}
use Rattle.nav_doors.specs.Connections.{outside}
use Rattle.nav_doors.proofs.UnderWay.{under_way, one_more, stops}
use Rattle.nav_doors.proofs.door.serve_door.Goals as goal

pub loop-init : goal.loop-init
loop-init g c = record {
  under_way = under_way
      (outside g.D.Door.gave g.D.Door.got_back g.D.Door.faults g.D.S.Source.left g.D.S.Source.faults g.D.K.Sink.held g.D.K.Sink.faults)
      (g.B.Pins.seat c.args.seat.now) c.args.door.now (standing (g.B.Pins.log c.args.seat.now) c.args.desk.now);
  seat = refl;
}

pub returns-in-Ok-eq5-clause-served : goal.returns-in-Ok-eq5-clause-served
returns-in-Ok-eq5-clause-served g c =
    stops (outside g.D.Door.gave g.D.Door.got_back g.D.Door.faults g.D.S.Source.left g.D.S.Source.faults g.D.K.Sink.held g.D.K.Sink.faults)
    (g.B.Pins.seat c.args.seat.now) (g.B.Pins.seat c.loop.seat) c.args.connections c.loop.counter
    c.args.door.now c.loop.door c.serve_next.new.door
    (standing (g.B.Pins.log c.args.seat.now) c.args.desk.now) (standing (g.B.Pins.log c.loop.seat) c.loop.desk) (standing (g.B.Pins.log c.serve_next.new.seat) c.serve_next.new.desk) c.in-Ok-eq5.field-0
    c.loop.invariant.under_way c.loop.invariant.seat c.in-Ok-eq5.ensures.served c.in-Ok-eq5.field-0-test

pub loop-preserved : goal.loop-preserved
loop-preserved g c = record {
  under_way = one_more
      (outside g.D.Door.gave g.D.Door.got_back g.D.Door.faults g.D.S.Source.left g.D.S.Source.faults g.D.K.Sink.held g.D.K.Sink.faults)
      (g.B.Pins.seat c.args.seat.now) (g.B.Pins.seat c.loop.seat) c.loop.counter
      c.args.door.now c.loop.door c.serve_next.new.door
      (standing (g.B.Pins.log c.args.seat.now) c.args.desk.now) (standing (g.B.Pins.log c.loop.seat) c.loop.desk) (standing (g.B.Pins.log c.serve_next.new.seat) c.serve_next.new.desk) c.in-Ok.field-0
      c.loop.invariant.under_way c.loop.invariant.seat c.in-Ok.ensures.served c.in-Ok.field-0-test.1;
  seat = c.serve_next.ensures.seat ∙ c.loop.invariant.seat;
}
