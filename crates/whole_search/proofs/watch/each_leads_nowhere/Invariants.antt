use Rattle.std.proofs.Common.{take, All}
use Rattle.whole_search.specs.Refusals.{LeadsNowhere}
use Rattle.whole_search.proofs.watch.each_leads_nowhere.Given as goal

abbrev pub invariant-loop-edge : goal.invariant-loop-edge
invariant-loop-edge l = All (LeadsNowhere l.query.files.now l.at) (take l.edge-index l.edges)
