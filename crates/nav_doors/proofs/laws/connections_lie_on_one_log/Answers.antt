use Rattle.nav_doors.specs.Connections.{outside}
use Rattle.nav_doors.proofs.Logs.{on_one_log}
use Rattle.nav_doors.proofs.laws.connections_lie_on_one_log.Goals as goal

pub returns : goal.returns
returns g c = on_one_log (outside g.D.Door.gave g.D.Door.got_back g.D.Door.faults g.D.S.Source.left g.D.S.Source.faults g.D.K.Sink.held g.D.K.Sink.faults)
