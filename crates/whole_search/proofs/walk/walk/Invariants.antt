use Rattle.std.proofs.Common.{◌≤◌, length, All}
use Rattle.partial_path.specs.declared.bounds.TheConstants.{MAX_RUNS}
use Rattle.whole_search.specs.Leads.{live_at}
use Rattle.whole_search.specs.Open.{runs_of}
use Rattle.whole_search.specs.Query.{IsOpenIn}
use Rattle.whole_search.specs.Refusals.{IsDeadEnd}
use Rattle.whole_search.proofs.Ahead.{ahead}
use Rattle.whole_search.proofs.UnderWay.{IsUnderWay}
use Rattle.whole_search.proofs.walk.walk.Given as goal

abbrev pub invariant-loop-reached : goal.invariant-loop-reached
invariant-loop-reached l = record {
  stands : All (IsOpenIn l.query) l.stack.items;
  few : l.tally.counted ≤ MAX_RUNS;
  under_way : IsUnderWay (live_at l.query.leads.now) l.query.bounds l.query.files.now l.query.start.now (runs_of l.stack.items) l.tally;
  dead_ends : All (IsDeadEnd l.query.files.now) l.watch.dead_ends.kept.items;
}

abbrev pub decreases-loop-reached : goal.decreases-loop-reached
decreases-loop-reached l = length (ahead (live_at l.query.leads.now) l.query.bounds l.query.files.now l.query.start.now (runs_of l.stack.items))
