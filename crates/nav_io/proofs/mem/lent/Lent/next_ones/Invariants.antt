use Rattle.std.proofs.Common.{◌≡◌, ◌-◌, ◌≤◌, ◌++◌, vec_len, vec_capacity}
use Rattle.nav_io.proofs.mem.lent.Lent.next_ones.Given as goal

-- What was given out so far is the front of what waited.
abbrev pub invariant-loop-things : goal.invariant-loop-things
invariant-loop-things g l = record {
  waits : l.fn.self.waiting ≡ l.things.items ++ l.self.waiting;
  given : l.self.gave ≡ l.fn.self.gave ++ l.things.items;
  back : l.self.back ≡ l.fn.self.back;
  few : vec_len l.things ≤ l.n;
  room : l.n ≤ vec_capacity l.things;
}

abbrev pub decreases-loop-things : goal.decreases-loop-things
decreases-loop-things g l = l.n - vec_len l.things
