-- More was pushed.
use Rattle.std.proofs.Common.{arith, ◌∙◌}
use Rattle.nav_poll.proofs.Pushed.{pushes_more, none_fell}
use Rattle.nav_poll.proofs.pushing.push_rest.Goals as goal

pub loop-sent-preserved : goal.loop-sent-preserved
loop-sent-preserved g c =
    let told = rw c.in-Ok-Bytes.field-0-is at c.in-Ok-Bytes.ensures.bytes in
    let bound = rw c.in-Ok-Bytes.field-0-is at c.in-Ok-Bytes.ensures.bound in
    record {
      within = omega (arith, bound, c.loop-sent.invariant.within);
      pushes = pushes_more c.args.out.now c.args.sent.now c.loop-sent.sent c.in-Ok-Bytes.n (g.K.Link.held c.args.link.now) (g.K.Link.held c.loop-sent.link) (g.K.Link.held c.push.new.self)
          c.loop-sent.invariant.pushes told;
      left = c.in-Ok-Bytes.ensures.left ∙ c.loop-sent.invariant.left;
      counts = none_fell (g.K.Link.counts c.args.link.now) (g.K.Link.counts c.loop-sent.link) (g.K.Link.counts c.push.new.self)
          c.loop-sent.invariant.counts c.in-Ok-Bytes.ensures.counts;
    }
