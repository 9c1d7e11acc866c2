use Rattle.std.proofs.Common.{◌+◌, ◌∷◌}
use Rattle.std.specs.List.{AllByRecursion}
use Rattle.partial_path.specs.PathSets.{walk_of_rule}
use Rattle.file_paths.specs.declared.fault.TheConstants.{MAX_WEIGHT}
use Rattle.file_paths.specs.Finding.{IsShort}
use Rattle.file_paths.proofs.GrowingLaws.{IsAdding}
use Rattle.file_paths.proofs.growing.grow.Given as goal

abbrev pub invariant-loop-next : goal.invariant-loop-next
invariant-loop-next l = record {
  adding : IsAdding l.graph (walk_of_rule l.fn.path) l.fn.from (l.last ∷ l.next-iterator) l.initial.begun.items l.begun.items;
  short : AllByRecursion (IsShort (MAX_WEIGHT + 1)) l.begun.items;
}
