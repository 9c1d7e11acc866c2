use Rattle.std.proofs.Common.{take}
use Rattle.whole_search.specs.Leads.{AreTables, contents}
use Rattle.whole_search.proofs.leads.Leads.of.Given as goal

abbrev pub invariant-loop-graph : goal.invariant-loop-graph
invariant-loop-graph l = AreTables (take l.graph-index l.files) (contents l.tables.items)
