use Rattle.std.proofs.Common.{◌≡◌, ◌≤◌, ◌-◌}
use Rattle.partial_path.specs.Ends.{ends_at_root, ends_by_stack}
use Rattle.end_index.specs.Ends.{placed}
use Rattle.end_index.specs.Shares.{marks_between}
use Rattle.end_index.proofs.sharing.list_files.Given as goal

-- the files before this one came, and their paths, which aren't in order yet
abbrev pub invariant-loop-file : goal.invariant-loop-file
invariant-loop-file l = record {
  low : l.from ≤ l.file;
  high : l.file - l.from ≤ l.to - l.from;
  root : l.root.marks ≡ marks_between ends_at_root l.view l.from l.file;
  root_places : l.root.places ≡ placed l.from l.root.marks;
  stack : l.stack.marks ≡ marks_between ends_by_stack l.view l.from l.file;
  stack_places : l.stack.places ≡ placed l.from l.stack.marks;
}
