use Rattle.std.proofs.Common.{◌≡◌, ◌≤◌, ◌-◌, length, drop}
use Rattle.nav_poll.specs.Links.{NoneFell}
use Rattle.nav_poll.specs.Turns.{Pushes}
use Rattle.nav_poll.proofs.pushing.push_rest.Given as goal

-- What was pushed and what is left are what was to be pushed, and no count fell.
abbrev pub invariant-loop-sent : goal.invariant-loop-sent
invariant-loop-sent g l = record {
  within : l.sent ≤ length l.out;
  pushes : Pushes (drop l.fn.sent l.out) (drop l.sent l.out) (g.K.Link.held l.fn.link) (g.K.Link.held l.link);
  left : g.K.Link.left l.link ≡ g.K.Link.left l.fn.link;
  counts : NoneFell (g.K.Link.counts l.fn.link) (g.K.Link.counts l.link);
}

abbrev pub decreases-loop-sent : goal.decreases-loop-sent
decreases-loop-sent g l = length l.out - l.sent
