use Rattle.std.proofs.Common.{◌≤◌}
use Rattle.nav_lsp.specs.Turns.{spot_at}
use Rattle.nav_lsp.proofs.Served.{IsServing}
use Rattle.nav_lsp.proofs.serving.serve_messages.Given as goal

-- So many messages were answered, and no count of faults fell.
abbrev pub invariant-loop : goal.invariant-loop
invariant-loop g l = record {
  serving : IsServing l.counter (g.B.Pins.seat l.fn.board) (g.B.Pins.log l.fn.board) (g.S.Source.left l.fn.source) (g.K.Sink.held l.fn.sink)
      (spot_at g.B.Pins l.board l.editor l.reader (g.S.Source.left l.source))
      (g.K.Sink.held l.sink);
  source_count : g.S.Source.faults l.fn.source ≤ g.S.Source.faults l.source;
  sink_count : g.K.Sink.faults l.fn.sink ≤ g.K.Sink.faults l.sink;
}
