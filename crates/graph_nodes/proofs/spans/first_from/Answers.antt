-- A span in the middle is of an earlier node, or not.
use Rattle.std.proofs.Common.{arith}
use Rattle.graph_nodes.proofs.Split.{zone_up, zone_down}
use Rattle.graph_nodes.proofs.spans.first_from.Goals as goal

pub loop-low-preserved-then-spans-middle : goal.loop-low-preserved-then-spans-middle
loop-low-preserved-then-spans-middle c =
    zone_up c.args.n c.loop-low.low c.loop-low.high _ c.args.spans.now _ c.requires c.loop-low.invariant
    (omega (arith, c.loop-low-test.true)) c.if-spans-middle.true

pub loop-low-preserved : goal.loop-low-preserved
loop-low-preserved c =
    zone_down c.args.n c.loop-low.low c.loop-low.high _ c.args.spans.now _ c.requires c.loop-low.invariant
    (omega arith) (omega (arith, c.loop-low-test.true)) c.if-spans-middle.false
