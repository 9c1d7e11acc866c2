-- Memory for the seats was refused.
use Rattle.nav_doors.specs.Connections.{outside}
use Rattle.nav_doors.specs.Houses.{house_with}
use Rattle.nav_doors.proofs.Housed.{opened_nothing}
use Rattle.nav_doors.proofs.house.serve_named.Goals as goal

pub returns-in_default : goal.returns-in_default
returns-in_default g c = record {
  served = opened_nothing
      (outside g.H.D.Door.gave g.H.D.Door.got_back g.H.D.Door.faults g.H.D.S.Source.left g.H.D.S.Source.faults g.H.D.K.Sink.held g.H.D.K.Sink.faults)
      c.args.doors c.args.connections
      (house_with (g.H.House.gave c.args.house.now) (g.H.House.got_back c.args.house.now) (g.H.House.faults c.args.house.now));
}
