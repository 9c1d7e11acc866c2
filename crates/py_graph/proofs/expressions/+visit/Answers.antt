use Rattle.std.proofs.Common.{arith}
use Rattle.py_graph.proofs.Visits.{expr-more}
use Rattle.py_graph.proofs.expressions.+visit.Goals as goal

-- With an operator there are two operands or more.
pub expr-returns : goal.expr-returns
expr-returns t c =
    let gives = expr-more c.args.e.now c.args.l c.args.draft.now c.operand.new.draft c.operands.new.draft c.in_ok-v.v c.items.result.now c.operands.result c.items.ensures (λ h. cc (c.if-is_empty.ensures.1 h)) c.in_ok-v.ensures.0.0 c.operands.ensures.0.0 in
    ((gives, omega (arith, c.in_ok-v.ensures.0.1, c.operands.ensures.0.1)), c.operands.ensures.1)
