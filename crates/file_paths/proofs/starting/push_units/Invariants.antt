use Rattle.std.proofs.Common.{◌+◌}
use Rattle.std.specs.List.{AllByRecursion}
use Rattle.file_paths.specs.declared.fault.TheConstants.{MAX_WEIGHT}
use Rattle.file_paths.specs.Finding.{IsShort}
use Rattle.file_paths.proofs.BeginningLaws.{AreUnits}
use Rattle.file_paths.proofs.starting.push_units.Given as goal

abbrev pub invariant-loop-edge : goal.invariant-loop-edge
invariant-loop-edge l = record {
  units : AreUnits l.graph l.fn.from l.edge-iterator l.initial.first.items l.first.items;
  short : AllByRecursion (IsShort (MAX_WEIGHT + 1)) l.first.items;
}
