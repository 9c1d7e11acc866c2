use Rattle.std.proofs.Common.{arith}
use Rattle.nav_io.proofs.Written.{IsPartWritten-goes_on_range}
use Rattle.nav_io.proofs.write.write_all.Goals as goal

pub loop-rest-preserved : goal.loop-rest-preserved
loop-rest-preserved g c = record {
  part = IsPartWritten-goes_on_range _ _ _ _ _ _ c.loop-rest.invariant.part c.in_ok-taken.ensures.bytes;
  count = omega (arith, c.in_ok-taken.ensures.count, c.loop-rest.invariant.count);
}
