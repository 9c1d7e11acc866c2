use Rattle.std.proofs.Common.{◌∙◌, arith}
use Rattle.nav_demo.proofs.Drawn.{files_more}
use Rattle.nav_demo.proofs.tree.Tree.edits.Goals as goal

-- one file more was taken
pub loop-preserved : goal.loop-preserved
loop-preserved c = record {
  put = files_more c.args.self.now.files c.loop.self.files c.args.self.now.start c.loop.self.start c.args.self.now.next c.loop.counter
      c.loop.self.next c.in_ok-file.field-0 c.loop.edits.items c.push.new.self.items c.in_ok-push.ensures.items c.loop.invariant.put
      c.in_ok-file.ensures.edit c.loop.invariant.files c.loop.invariant.start c.loop.invariant.next;
  files = c.file.ensures.files ∙ c.loop.invariant.files;
  start = c.file.ensures.start ∙ c.loop.invariant.start;
  next = omega (arith, c.in_ok-file.ensures.next, c.loop.invariant.next);
}
