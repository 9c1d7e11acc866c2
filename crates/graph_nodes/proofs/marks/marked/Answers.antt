-- The mark of one node more.
use Rattle.graph_nodes.proofs.Marking.{marked_more}
use Rattle.graph_nodes.proofs.marks.marked.Goals as goal

pub loop-n-preserved : goal.loop-n-preserved
loop-n-preserved c =
    rw c.in_ok-push.ensures.items
    (marked_more c.args.nodes.now c.args.edges.now c.loop-n.marks.items c.loop-n.n _ c.args.turns.now c.mark_of.result
    c.loop-n-test.true c.requires c.mark_of.ensures c.loop-n.invariant)
