-- The edges that were tried are all that leave the place.
use Rattle.std.proofs.Common.{Bool, IsTrue, All, ◌∙◌}
use Rattle.std.proofs.lemmas.Result.{IfOk-weaker}
use Rattle.whole_search.specs.Refusals.{IsDeadEnd, LeadsNowhere}
use Rattle.whole_search.proofs.Nowhere.{IsDeadEnd-from_edges}
use Rattle.whole_search.proofs.watch.leads_nowhere.Goals as goal

pub returns : goal.returns
returns c =
    IfOk-weaker c.each_leads_nowhere.result
    (λ (nowhere : Bool). IsTrue nowhere → All (LeadsNowhere c.args.query.now.files.now c.args.at.now) c.deref.result.now)
    (λ (nowhere : Bool). IsTrue nowhere → IsDeadEnd c.args.query.now.files.now c.args.at.now)
    (λ nowhere h t.
    IsDeadEnd-from_edges c.args.query.now.files.now c.args.at.now c.deref.result.now
    (c.deref.ensures.value ∙ c.in_ok-edges.ensures) (h t))
    c.each_leads_nowhere.ensures
