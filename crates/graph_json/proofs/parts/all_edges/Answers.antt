use Rattle.std.proofs.Common.{arith}
use Rattle.graph_json.specs.Plain.{bad_edge}
use Rattle.std.specs.Option.{option_copied}
use Rattle.graph_json.specs.Named.{edge_among}
use Rattle.graph_json.proofs.Collecting.{one_more, all_read, first_bad}
use Rattle.graph_json.proofs.parts.all_edges.Goals as goal

pub returns-in-None-clause-gives : goal.returns-in-None-clause-gives
returns-in-None-clause-gives c = first_bad bad_edge (edge_among (option_copied c.args.names)) c.args.values.now c.loop-i.i c.index-values-i.result c.loop-i.edges.items c.loop-i-test.true c.index-values-i.is c.loop-i.invariant.0 c.in-None.ensures

pub loop-i-preserved : goal.loop-i-preserved
loop-i-preserved c = (one_more bad_edge (edge_among (option_copied c.args.names)) c.args.values.now c.loop-i.i c.index-values-i.result c.in-Some.edge c.loop-i.edges.items c.push.new.self.items c.loop-i-test.true c.index-values-i.is c.loop-i.invariant.0 c.in-Some.ensures c.in_ok-push-in-Some.ensures.items, omega arith)

pub returns-clause-gives : goal.returns-clause-gives
returns-clause-gives c = all_read bad_edge (edge_among (option_copied c.args.names)) c.args.values.now c.loop-i.i c.loop-i.edges.items c.loop-i-test.false c.loop-i.invariant.0
