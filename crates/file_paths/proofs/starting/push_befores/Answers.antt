-- One node more was looked at.
use Rattle.std.proofs.Common.{◌≤◌, length, arith}
use Rattle.file_paths.proofs.FirstLaws.{before_more}
use Rattle.file_paths.proofs.starting.push_befores.Goals as goal

pub loop-node-preserved : goal.loop-node-preserved
loop-node-preserved c =
    let low : c.loop-node.node ≤ length c.args.graph.now.nodes = omega (arith, c.loop-node.auto.node, c.node_count-node.ensures.value) in
    record {
      first =
          before_more c.args.graph.now c.loop-node.node c.loop-node.first.items c.push_before.new.first.items c.loop-node-test.true low
          c.loop-node.invariant.first c.in_ok-push_before.ensures.first;
      short = c.in_ok-push_before.ensures.short;
    }
