use Rattle.std.proofs.Common.{◌≤◌}
use Rattle.nav_session.specs.Desks.{moment_at}
use Rattle.nav_session.specs.Turns.{spot}
use Rattle.nav_session.specs.UnderWay.{IsAtDesk}
use Rattle.nav_session.proofs.serving.serve_lines.Given as goal

-- So many lines were answered, and no count of faults fell.
abbrev pub invariant-loop : goal.invariant-loop
invariant-loop g l = record {
  under_way : IsAtDesk l.counter (g.B.Pins.seat l.fn.board) (g.B.Pins.log l.fn.board) l.fn.desk (g.S.Source.left l.fn.source) (g.K.Sink.held l.fn.sink)
      (spot (moment_at g.B.Pins l.board l.desk) l.reader (g.S.Source.left l.source))
      (g.K.Sink.held l.sink);
  source_count : g.S.Source.faults l.fn.source ≤ g.S.Source.faults l.source;
  sink_count : g.K.Sink.faults l.fn.sink ≤ g.K.Sink.faults l.sink;
}
