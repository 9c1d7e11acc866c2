use Rattle.std.proofs.Common.{◌∙◌, ◌∷◌, []}
use Rattle.whole_search.proofs.InOrder.{exact_along}
use Rattle.nav_answers.specs.Links.{rows_of_any}
use Rattle.nav_answers.specs.Replies.{hit_of}
use Rattle.nav_answers.specs.Sources.{graphs_seen}
use Rattle.nav_answers.proofs.Called.{are_callers}
use Rattle.nav_answers.proofs.calling.callers_by.Goals as goal

pub returns : goal.returns
returns c =
    are_callers (graphs_seen c.args._view.now) c.args.node c.args._leading.now c.requires.leading c.args.parts.now c.requires.parts c.in_order.result.items
    c.in_order.ensures.rising
    (exact_along c.in_order.result.items c.in_ok-rows.rows.items (rows_of_any c.args.parts.now.list (hit_of c.args.node ∷ []))
    (c.in_ok-rows.ensures ∙ (λ i. rows_of_any c.args.parts.now.list (c.hit_of.ensures i ∷ []))) c.in_order.ensures.exact)
