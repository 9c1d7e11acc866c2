-- One edge more that leads to nothing; at the end all were tried.
use Rattle.std.proofs.Common.{sym}
use Rattle.std.proofs.lemmas.List.{take_all}
use Rattle.std.proofs.lemmas.List.Elements.{All-more, All-same}
use Rattle.whole_search.specs.Refusals.{LeadsNowhere}
use Rattle.whole_search.proofs.watch.each_leads_nowhere.Goals as goal

pub loop-edge-preserved : goal.loop-edge-preserved
loop-edge-preserved c =
    All-more (LeadsNowhere c.args.query.now.files.now c.args.at.now) c.args.edges.now c.loop-edge.edge-index _ c.loop-edge-test.true c.loop-edge.invariant
    (c.in_ok-leads_nowhere_by.ensures c.if-not-branch.false)

pub returns : goal.returns
returns c = λ t.
    All-same (LeadsNowhere c.args.query.now.files.now c.args.at.now) c.args.edges.now _
    (sym (take_all c.loop-edge.edge-index c.args.edges.now c.loop-edge-test.false)) c.loop-edge.invariant
