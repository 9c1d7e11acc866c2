use Rattle.std.proofs.Common.{arith}
use Rattle.std.proofs.Common.{◌∙◌, sym}
use Rattle.graph_json.specs.Plain.{bad_node}
use Rattle.std.specs.Option.{option_copied}
use Rattle.graph_json.specs.Named.{node_among}
use Rattle.graph_json.proofs.Collecting.{one_more, all_read, first_bad}
use Rattle.graph_json.proofs.parts.all_nodes.Goals as goal

pub returns-in-None-clause-gives : goal.returns-in-None-clause-gives
returns-in-None-clause-gives c =
    first_bad bad_node (node_among (option_copied c.args.names)) c.args.values.now c.loop-i.i c.index-values-i.result c.loop-i.nodes.items c.loop-i-test.true c.index-values-i.is c.loop-i.invariant.0
    (sym c.in-None.is ∙ c.in_ok-node.ensures)

pub loop-i-preserved : goal.loop-i-preserved
loop-i-preserved c = (
  one_more bad_node (node_among (option_copied c.args.names)) c.args.values.now c.loop-i.i c.index-values-i.result c.in-Some.node c.loop-i.nodes.items c.push.new.self.items c.loop-i-test.true c.index-values-i.is c.loop-i.invariant.0
      (sym c.in-Some.is ∙ c.in_ok-node.ensures) c.in_ok-push-in-Some.ensures.items,
  omega arith,
)

pub returns-clause-gives : goal.returns-clause-gives
returns-clause-gives c = all_read bad_node (node_among (option_copied c.args.names)) c.args.values.now c.loop-i.i c.loop-i.nodes.items c.loop-i-test.false c.loop-i.invariant.0
