use Rattle.std.proofs.Common.{◌≡◌, ◌≤◌}
use Rattle.navmany.proofs.link.MioLink.tell.Given as goal

-- No count changes, and the first bytes have room.
abbrev pub invariant-loop : goal.invariant-loop
invariant-loop l = record {
  counts : l.self-inside.counts ≡ l.fn.self;
  few : l.self-inside.held ≤ 8;
  given : l.self-inside.given ≤ l.self-inside.held;
}
