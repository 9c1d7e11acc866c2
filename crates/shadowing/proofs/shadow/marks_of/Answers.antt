-- A path that isn't among the front is shadowed.
use Rattle.shadowing.proofs.Front.{marks_more}
use Rattle.shadowing.proofs.shadow.marks_of.Goals as goal

pub loop-path-preserved : goal.loop-path-preserved
loop-path-preserved c =
    marks_more (λ p. p.now) c.args.paths.now c.loop-path.path-index c.path-item.result c.is_among.result c.in_ok-front.front.items c.deref.result.now _ _
    c.loop-path-test.true c.path-item.is c.in_ok-front.ensures.exact c.deref.ensures.value c.is_among.ensures c.in_ok-push.ensures.items c.loop-path.invariant
