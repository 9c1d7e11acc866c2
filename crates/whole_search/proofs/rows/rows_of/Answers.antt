-- The rows are the ends of the paths that are kept.
use Rattle.std.proofs.Common.{ap, ◌∙◌}
use Rattle.shadowing.specs.Shadow.{unshadowed}
use Rattle.whole_search.specs.Ends.{path_ends}
use Rattle.whole_search.proofs.InOrder.{exact_along}
use Rattle.whole_search.proofs.rows.rows_of.Goals as goal

pub returns-clause-exact : goal.returns-clause-exact
returns-clause-exact c =
    exact_along c.in_order.result.items c.in_ok-ends.ends.items _
    (c.in_ok-ends.ensures ∙ ap (path_ends c.args.files.now c.args.start.now) (c.deref.ensures.value ∙ (c.in_ok-kept.ensures ∙ ap unshadowed c.in_ok-paths_of.ensures)))
    c.in_order.ensures.exact
