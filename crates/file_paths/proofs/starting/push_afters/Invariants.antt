use Rattle.std.proofs.Common.{◌+◌, ◌-◌, length}
use Rattle.std.specs.List.{AllByRecursion}
use Rattle.file_paths.specs.declared.fault.TheConstants.{MAX_WEIGHT}
use Rattle.file_paths.specs.Finding.{IsShort, AreFirstRules, starts_after}
use Rattle.file_paths.proofs.starting.push_afters.Given as goal

abbrev pub invariant-loop-node : goal.invariant-loop-node
invariant-loop-node l = record {
  first : AreFirstRules l.graph (starts_after l.graph (length l.graph.nodes - l.node)) l.first.items;
  short : AllByRecursion (IsShort (MAX_WEIGHT + 1)) l.first.items;
}
