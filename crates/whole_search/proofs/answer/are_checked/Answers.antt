-- Each graph is checked, as it says when it is asked how many nodes it has.
use Rattle.std.proofs.Common.{sym, subst}
use Rattle.std.proofs.lemmas.List.{take_all}
use Rattle.std.proofs.lemmas.List.Elements.{All-more, All-same}
use Rattle.graph_nodes.specs.Checked.{IsChecked}
use Rattle.whole_search.proofs.answer.are_checked.Goals as goal

pub loop-graph-preserved : goal.loop-graph-preserved
loop-graph-preserved c =
    All-more IsChecked c.args.files.now c.loop-graph.graph-index c.graph-item.result c.loop-graph-test.true c.loop-graph.invariant
    (subst IsChecked c.graph-item.is c.node_count.ensures.checked)

pub returns : goal.returns
returns c =
    All-same IsChecked c.args.files.now _ (sym (take_all c.loop-graph.graph-index c.args.files.now c.loop-graph-test.false)) c.loop-graph.invariant
