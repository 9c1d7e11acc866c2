use Rattle.std.proofs.Common.{◌≤◌, length}
use Rattle.nav_io.proofs.guard.read_on.Given as goal

-- What was read lies in the buffer.
abbrev pub invariant-loop : goal.invariant-loop
invariant-loop g l = l.got ≤ length l.buf
