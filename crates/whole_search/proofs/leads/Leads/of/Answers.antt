-- One more file has its table; and tables that tell where one can land tell the live spots.
use Rattle.std.proofs.Common.{subst}
use Rattle.std.proofs.lemmas.List.{take_all}
use Rattle.whole_search.specs.Leads.{contents, AreTables}
use Rattle.whole_search.proofs.Landing.{AreTables-next, IsLive-from_tables}
use Rattle.whole_search.proofs.leads.Leads.of.Goals as goal

pub loop-graph-preserved : goal.loop-graph-preserved
loop-graph-preserved c =
    AreTables-next c.args.files.now c.loop-graph.graph-index c.graph-item.result c.loop-graph.tables.items c.push.new.self.items
    c.in_ok-marks_of.field-0 c.loop-graph-test.true c.graph-item.is c.in_ok-push.ensures.items c.in_ok-marks_of.ensures
    c.loop-graph.invariant

pub returns-clause-live : goal.returns-clause-live
returns-clause-live c =
    IsLive-from_tables c.args.files.now (contents c.loop-graph.tables.items)
    (subst (λ files. AreTables files (contents c.loop-graph.tables.items))
    (take_all c.loop-graph.graph-index c.args.files.now c.loop-graph-test.false) c.loop-graph.invariant)
