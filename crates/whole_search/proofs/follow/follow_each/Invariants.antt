use Rattle.std.proofs.Common.{◌≡◌, ◌++◌, take, All}
use Rattle.whole_search.specs.Open.{runs_of}
use Rattle.whole_search.specs.Query.{IsOpenIn, longer_in}
use Rattle.whole_search.proofs.follow.follow_each.Given as goal

abbrev pub invariant-loop-edge : goal.invariant-loop-edge
invariant-loop-edge l = record {
  stack : All (IsOpenIn l.query) l.stack.items;
  longer : runs_of l.stack.items ≡ runs_of l.initial.stack.items ++ longer_in l.query l.reached (take l.edge-index l.edges);
}
