use Rattle.std.proofs.Common.{◌≤◌}
use Rattle.partial_path.specs.Ends.{ends_at_root, ends_by_stack}
use Rattle.end_index.specs.Shares.{HasFirst}
use Rattle.end_index.proofs.index.EndIndex.put_changed.Given as goal

-- the files before this one have their marks, of which a few were put
abbrev pub invariant-loop-file : goal.invariant-loop-file
invariant-loop-file l = record {
  few : l.changed ≤ 6;
  root : HasFirst ends_at_root l.view l.file l.self.root;
  stack : HasFirst ends_by_stack l.view l.file l.self.stack;
}
