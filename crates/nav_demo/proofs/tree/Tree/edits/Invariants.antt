use Rattle.std.proofs.Common.{◌≡◌, ◌+◌}
use Rattle.nav_demo.specs.MadeTree.{made_files}
use Rattle.nav_demo.proofs.tree.Tree.edits.Given as goal

-- So many files were taken, and are put in order.
abbrev pub invariant-loop : goal.invariant-loop
invariant-loop l = record {
  put : l.edits.items ≡ made_files l.fn.self.files l.fn.self.start l.fn.self.next l.counter;
  files : l.self.files ≡ l.fn.self.files;
  start : l.self.start ≡ l.fn.self.start;
  next : l.self.next ≡ l.fn.self.next + l.counter;
}
