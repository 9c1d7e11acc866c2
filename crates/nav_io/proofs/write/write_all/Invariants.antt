use Rattle.std.proofs.Common.{◌≤◌, length}
use Rattle.nav_io.proofs.Written.{IsPartWritten}
use Rattle.nav_io.proofs.write.write_all.Given as goal

-- What was taken, then what is left, is the whole.
abbrev pub invariant-loop-rest : goal.invariant-loop-rest
invariant-loop-rest g l = record {
  part : IsPartWritten (g.K.Sink.held l.fn.sink) l.bytes (g.K.Sink.held l.sink) l.rest;
  count : g.K.Sink.faults l.fn.sink ≤ g.K.Sink.faults l.sink;
}

abbrev pub decreases-loop-rest : goal.decreases-loop-rest
decreases-loop-rest g l = length l.rest
