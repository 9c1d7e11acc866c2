use Rattle.std.proofs.Common.{◌≤◌, ◌+◌, ◌-◌}
use Rattle.std.specs.List.{AllByRecursion}
use Rattle.file_paths.specs.declared.fault.TheConstants.{MAX_WEIGHT}
use Rattle.file_paths.specs.Finding.{IsFinding, IsShort}
use Rattle.file_paths.proofs.enumerating.find.Given as goal

abbrev pub invariant-loop-path : goal.invariant-loop-path
invariant-loop-path l = record {
  finding : IsFinding l.graph l.found.paths.items l.found.begun.items l.found.weight l.steps;
  short : AllByRecursion (IsShort (MAX_WEIGHT + 1)) l.found.begun.items;
  light : l.found.weight ≤ MAX_WEIGHT;
}

abbrev pub decreases-loop-path : goal.decreases-loop-path
decreases-loop-path l = (MAX_WEIGHT + 1) - l.found.weight
