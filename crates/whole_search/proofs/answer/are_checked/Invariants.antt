use Rattle.std.proofs.Common.{take, All}
use Rattle.graph_nodes.specs.Checked.{IsChecked}
use Rattle.whole_search.proofs.answer.are_checked.Given as goal

abbrev pub invariant-loop-graph : goal.invariant-loop-graph
invariant-loop-graph l = All IsChecked (take l.graph-index l.files)
