use Rattle.std.proofs.Common.{arith}
use Rattle.end_index.proofs.Ordered.{next_is, next_is_other}
use Rattle.end_index.proofs.runs.next_here.Goals as goal

pub returns-then-place-at-clause-value : goal.returns-then-place-at-clause-value
returns-then-place-at-clause-value c = next_is c.args.at c.args.places.now _ (omega (arith, c.if-at-places.false)) c.if-place-at.true

pub returns-else-place-at-clause-value : goal.returns-else-place-at-clause-value
returns-else-place-at-clause-value c = next_is_other c.args.at c.args.places.now _ (omega (arith, c.if-at-places.false)) c.if-place-at.false
