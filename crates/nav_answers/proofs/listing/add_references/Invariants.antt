use Rattle.std.proofs.Common.{◌≡◌, ◌≤◌, ◌-◌, ◌++◌, drop, length}
use Rattle.nav_answers.specs.Asking.{references_in}
use Rattle.nav_answers.proofs.listing.add_references.Given as goal

-- those that are listed and those of the nodes left are all
abbrev pub invariant-loop-from : goal.invariant-loop-from
invariant-loop-from l = record {
  room : length l.found ≡ 128;
  inside : l.from ≤ l.count;
  listed : l.all.items ++ references_in l.number l.from (drop l.from l.file.graph.nodes) ≡ l.fn.all.items ++ references_in l.number 0 l.file.graph.nodes;
}

abbrev pub decreases-loop-from : goal.decreases-loop-from
decreases-loop-from l = l.count - l.from
