use Rattle.std.proofs.Common.{◌≡◌, ◌++◌, drop}
use Rattle.partial_path.specs.Ends.{ends_at_root, ends_by_stack, end_marks}
use Rattle.partial_path.proofs.end_table.EndTable.of.Given as goal

-- what was added, then what is left, is the whole
abbrev pub invariant-loop-place : goal.invariant-loop-place
invariant-loop-place l = record {
  root : l.table.root.items ++ end_marks ends_at_root l.place (drop l.place l.paths) ≡ end_marks ends_at_root 0 l.paths;
  stack : l.table.stack.items ++ end_marks ends_by_stack l.place (drop l.place l.paths) ≡ end_marks ends_by_stack 0 l.paths;
}
