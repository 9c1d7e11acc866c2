use Rattle.std.proofs.Common.{◌≡◌, ◌≤◌, ◌++◌, drop}
use Rattle.root_index.specs.Roots.{roots_from, roots_of}
use Rattle.root_index.proofs.RootRuns.{before_root}
use Rattle.root_index.proofs.file_roots.add_slots.Given as goal

-- what was added, then what is left, is the whole
abbrev pub invariant-loop-place : goal.invariant-loop-place
invariant-loop-place l = record {
  added : l.slots.items ++ roots_from l.file.path l.place (drop l.place l.paths) ≡ l.initial.slots.items ++ roots_of l.file;
  behind : before_root l.paths ≤ l.place;
}
