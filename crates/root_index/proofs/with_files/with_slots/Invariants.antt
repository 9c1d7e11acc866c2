use Rattle.std.proofs.Common.{◌++◌}
use Rattle.std.specs.List.Sorted.{IsPermutation}
use Rattle.root_index.specs.Roots.{AreByRank}
use Rattle.root_index.specs.Blocks.{all_paths}
use Rattle.root_index.proofs.with_files.with_slots.Given as goal

-- what is to be put in, then what is there, is the whole
abbrev pub invariant-loop-slot : goal.invariant-loop-slot
invariant-loop-slot l = record {
  order : AreByRank (all_paths l.more);
  all : IsPermutation (l.fn.slots.items ++ all_paths l.fn.groups) (l.slot-iterator.rest.items ++ all_paths l.more);
}
