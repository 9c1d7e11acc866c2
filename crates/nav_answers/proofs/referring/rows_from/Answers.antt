use Rattle.std.proofs.Common.{sym, subst, List, inr}
use Rattle.whole_search.specs.declared.found.Hit.{Hit}
use Rattle.whole_search.specs.Answers.{AreRows}
use Rattle.whole_search.proofs.InOrder.{exact_along}
use Rattle.nav_answers.specs.Links.{rows_of_any}
use Rattle.nav_answers.specs.Asking.{IsHeld, IsReferenceOfAny}
use Rattle.nav_answers.specs.Sources.{graphs_seen}
use Rattle.nav_answers.proofs.Referred.{are_references}
use Rattle.nav_answers.proofs.referring.rows_from.Goals as goal

pub returns : goal.returns
returns c =
    subst (λ (hits : List Hit). AreRows (IsReferenceOfAny c.args._bounds (graphs_seen c.args._view.now) c.args.definitions.now) hits) (sym c.of.ensures)
    (are_references c.args._bounds (graphs_seen c.args._view.now) (IsHeld c.args.parts.now.whole c.args.definitions.now) c.args.parts.now.list c.args.parts.now.limit c.requires c.args.definitions.now c.in_order.result.items
    (λ d m. inr m) c.in_order.ensures.rising
    (exact_along c.in_order.result.items c.in_ok-rows.rows.items (rows_of_any c.args.parts.now.list c.args.definitions.now) c.in_ok-rows.ensures c.in_order.ensures.exact))
