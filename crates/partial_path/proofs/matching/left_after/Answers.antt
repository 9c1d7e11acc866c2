use Rattle.std.proofs.Common.{sym, ◌∙◌, reverse, take, arith}
use Rattle.stacks_vars.specs.declared.scopes.NodeAt.{NodeAt}
use Rattle.partial_path.proofs.Lefts.{one_further, refused, too_few, all_asked}
use Rattle.partial_path.proofs.matching.left_after.Goals as goal

abbrev none_here : NodeAt
none_here = record { file = 0; node = 0 }

pub returns-then-left-eq0 : goal.returns-then-left-eq0
returns-then-left-eq0 c =
    sym (c.loop-node.invariant.1
    ∙ too_few c.args.base c.args.fixed.now c.args.scopes.now c.loop-node.node-index c.loop-node.left none_here c.loop-node-test.true c.if-left-eq0.true)

pub returns-then-not-is_moved : goal.returns-then-not-is_moved
returns-then-not-is_moved c =
    sym (c.loop-node.invariant.1
    ∙ refused c.args.base c.args.fixed.now c.args.scopes.now c.loop-node.node-index c.loop-node.left none_here c.loop-node-test.true
    c.if-left-eq0.false c.loop-node.invariant.0 c.if-not-is_moved.ensures)

pub loop-node-preserved : goal.loop-node-preserved
loop-node-preserved c = (
  omega arith,
  c.loop-node.invariant.1
      ∙ one_further c.args.base c.args.fixed.now c.args.scopes.now c.loop-node.node-index c.loop-node.left none_here c.loop-node-test.true
      c.if-left-eq0.false c.loop-node.invariant.0 c.if-not-is_moved.ensures,
)

pub returns : goal.returns
returns c =
    sym (c.loop-node.invariant.1
    ∙ all_asked c.args.base c.args.fixed.now (reverse (take c.loop-node.left c.args.scopes.now)) c.loop-node.node-index (omega arith))
