-- The operator names itself, and commits one part after the other.
use Rattle.std.proofs.Common.{◌≡◌, ◌∙◌, ap, arith, ◌*◌, ◌+◌, ◌/◌}
use Rattle.std.specs.Prelude.{codes}
use Rattle.nav_proto.specs.declared.request.Request.TheVariants.{Hello}
use Rattle.nav_session.specs.Desks.{moment}
use Rattle.nav_session.proofs.CallerLemmas.{goes_further}
use Rattle.nav_demo.specs.MadeTree.{made_commit}
use Rattle.nav_demo.proofs.Asked.{answered_first, answered_commit, commit_begins}
use Rattle.nav_demo.proofs.session.commit_all.Goals as goal

pub loop-init : goal.loop-init
loop-init g c = record {
  goes_on = c.in_ok-reply_to.ensures.goes_on;
  answered = answered_first c.in_ok-hello.field-0 (Hello (codes "operator")) c.in_ok-reply_to.field-0
      (moment (g.B.Pins.seat c.args.board.now) (g.B.Pins.log c.args.board.now) (g.B.Pins.pin_at c.args.board.now) c.args.desk.now)
      (moment (g.B.Pins.seat c.reply_to.new.board) (g.B.Pins.log c.reply_to.new.board) (g.B.Pins.pin_at c.reply_to.new.board) c.reply_to.new.desk)
      c.in_ok-hello.ensures c.requires.view c.in_ok-reply_to.ensures.goes_on c.in_ok-reply_to.ensures.reply;
  next = omega (arith, c.new-tree.ensures.next);
  files = c.new-tree.ensures.files;
  start = c.new-tree.ensures.start;
}

pub loop-preserved : goal.loop-preserved
loop-preserved g c =
    let i = c.loop.invariant in
    let begins : c.loop.tree.next ≡ 64 * c.loop.counter =
    commit_begins c.args.files c.commit_count-end.result c.loop.counter c.loop.tree.next
    (c.commit_count-end.ensures ∙ ap (λ n. (n + 63) / 64) c.new-tree.ensures.files) c.loop-test.true i.next in
    record {
      goes_on = goes_further
          (moment (g.B.Pins.seat c.args.board.now) (g.B.Pins.log c.args.board.now) (g.B.Pins.pin_at c.args.board.now) c.args.desk.now)
          (moment (g.B.Pins.seat c.loop.board) (g.B.Pins.log c.loop.board) (g.B.Pins.pin_at c.loop.board) c.loop.desk)
          (moment (g.B.Pins.seat c.reply_to-in-loop.new.board) (g.B.Pins.log c.reply_to-in-loop.new.board) (g.B.Pins.pin_at c.reply_to-in-loop.new.board) c.reply_to-in-loop.new.desk)
          i.goes_on c.in_ok-reply_to-2.ensures.goes_on;
      answered = answered_commit c.args.files c.args.start c.loop.counter (Hello (codes "operator")) c.in_ok-request.request c.in_ok-reply_to-2.field-0
          (moment (g.B.Pins.seat c.args.board.now) (g.B.Pins.log c.args.board.now) (g.B.Pins.pin_at c.args.board.now) c.args.desk.now)
          (moment (g.B.Pins.seat c.loop.board) (g.B.Pins.log c.loop.board) (g.B.Pins.pin_at c.loop.board) c.loop.desk)
          (moment (g.B.Pins.seat c.reply_to-in-loop.new.board) (g.B.Pins.log c.reply_to-in-loop.new.board) (g.B.Pins.pin_at c.reply_to-in-loop.new.board) c.reply_to-in-loop.new.desk)
          (c.in_ok-request.ensures.request c.loop.counter begins ∙ ap (λ n. made_commit n c.loop.tree.start c.loop.counter) i.files
          ∙ ap (λ n. made_commit c.args.files n c.loop.counter) i.start)
          i.answered i.goes_on c.in_ok-reply_to-2.ensures.goes_on c.in_ok-reply_to-2.ensures.reply;
      next = omega (arith, c.in_ok-request.ensures.next, i.next, i.files, begins);
      files = c.commit.ensures.files ∙ i.files;
      start = c.commit.ensures.start ∙ i.start;
    }
