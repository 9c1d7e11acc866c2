use Rattle.std.proofs.Common.{◌≡◌, ◌≤◌, ◌+◌, ◌++◌, take, drop, length}
use Rattle.nav_answers.specs.Asking.{references_in}
use Rattle.nav_answers.proofs.listing.add_between.Given as goal

-- those that were found and those of the nodes left are all from the first node on
abbrev pub invariant-loop-node : goal.invariant-loop-node
invariant-loop-node l = record {
  room : length l.found ≡ length l.fn.found;
  few : l.from + l.count ≤ l.node;
  found : take l.count l.found ++ references_in l.number l.node (drop l.node l.file.graph.nodes) ≡ references_in l.number l.from (drop l.from l.file.graph.nodes);
}
