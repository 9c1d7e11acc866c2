-- The rows are the ends of the runs that are kept.
use Rattle.nav_answers.specs.Kept.{ends_of}
use Rattle.nav_answers.specs.Sources.{graphs_seen}
use Rattle.whole_search.proofs.InOrder.{exact_along}
use Rattle.nav_answers.proofs.rows.rows_of.Goals as goal

pub returns-clause-exact : goal.returns-clause-exact
returns-clause-exact c =
    exact_along c.in_order.result.items c.in_ok-ends.ends.items (ends_of (graphs_seen c.args.view.now) c.args.runs.now) c.in_ok-ends.ensures c.in_order.ensures.exact
