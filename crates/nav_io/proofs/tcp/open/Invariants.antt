use Rattle.std.proofs.Common.{◌≡◌, ◌≤◌, vec_len, vec_capacity}
use Rattle.nav_io.proofs.tcp.open.Given as goal

-- A door was made for each number so far, and there is room for those that are left.
abbrev pub invariant-loop-number : goal.invariant-loop-number
invariant-loop-number g l = record {
  made : vec_len l.doors ≡ l.number;
  room : l.count ≤ vec_capacity l.doors;
}
