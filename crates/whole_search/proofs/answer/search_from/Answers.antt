-- What the runs that are met tell of all runs.
use Rattle.std.proofs.Common.{◌≡◌, Err, IsTrue, ◌↔◌, Bool, sym, subst, ◌∙◌}
use Rattle.std.proofs.lemmas.Result.{err_from_is_err_and}
use Rattle.partial_path.specs.Counted.{HasLimit}
use Rattle.whole_search.specs.Answers.{AreDefinitions}
use Rattle.whole_search.specs.Leads.{live_at}
use Rattle.whole_search.specs.declared.found.SearchFault.TheVariants.{Crowded}
use Rattle.whole_search.proofs.Rising.{AreSmall-from_All}
use Rattle.whole_search.proofs.MetCounted.{crowded, not_crowded, limit}
use Rattle.whole_search.proofs.PathEnds.{AreDefinitions-from_ends}
use Rattle.whole_search.proofs.answer.search_from.Goals as goal

pub returns-in_err-tally-clause-crowded : goal.returns-in_err-tally-clause-crowded
returns-in_err-tally-clause-crowded c = λ e.
    let p = err_from_is_err_and c.from_residual-in_err-tally.result c.from_residual-in_err-tally.ensures.1 in
    let q : c.walk.result ≡ Err Crowded = cc (p.1, p.2, c.in_err-tally.was, e) in
    crowded (live_at c.in_ok-leads.leads) c.args.bounds c.args.files.now c.args.from.now (c.walk.ensures.crowded q)

pub returns-clause-rows : goal.returns-clause-rows
returns-clause-rows c =
    subst (AreDefinitions c.args.bounds c.args.files.now c.args.from.now) (sym c.of-2.ensures)
    (AreDefinitions-from_ends (live_at c.in_ok-leads.leads) c.args.bounds c.args.files.now c.args.from.now c.in_ok-leads.ensures.live c.deref.result.now (c.deref.ensures.value ∙ c.in_ok-tally.ensures.runs) c.in_ok-rows.rows.items
    c.in_ok-rows.ensures.rising c.in_ok-rows.ensures.exact)

pub returns-clause-limit : goal.returns-clause-limit
returns-clause-limit c =
    subst (λ (b : Bool). IsTrue b ↔ HasLimit c.args.bounds c.args.files.now c.args.from.now) (sym c.in_ok-tally.ensures.limit)
    (limit (live_at c.in_ok-leads.leads) c.args.bounds c.args.files.now c.args.from.now c.in_ok-leads.ensures.live (AreSmall-from_All c.args.files.now c.are_checked.ensures))

pub returns-clause-not_crowded : goal.returns-clause-not_crowded
returns-clause-not_crowded c =
    not_crowded (live_at c.in_ok-leads.leads) c.args.bounds c.args.files.now c.args.from.now c.in_ok-leads.ensures.live c.in_ok-tally.ensures.few
