use Rattle.std.proofs.Common.{◌≡◌, ◌≤◌, ◌-◌, ◌*◌, ◌⊎◌, length}
use Rattle.nav_answers.specs.Asking.{AreFound, IsShareOf}
use Rattle.nav_answers.specs.Sources.{graphs_seen}
use Rattle.nav_answers.specs.Twins.{AreKept}
use Rattle.nav_answers.proofs.sharing.ask_share.Given as goal

-- the run of that number begins there, or all are passed; what is found so far of the share, and what is kept of the
-- references that were searched last
abbrev pub invariant-loop-from : goal.invariant-loop-from
invariant-loop-from g l = record {
  begins : (l.from ≡ l.turn * l.len) ⊎ (length l.all ≤ l.from);
  inside : l.from ≤ length l.all;
  few : l.turn ≤ l.from;
  found : AreFound l.query.bounds (graphs_seen l.query.view.now) l.query.definitions.now (IsShareOf l.all l.step l.first l.from) l.links;
  kept : AreKept l.query.bounds (graphs_seen l.query.view.now) l.searched.list.items;
}

abbrev pub decreases-loop-from : goal.decreases-loop-from
decreases-loop-from g l = length l.all - l.from
