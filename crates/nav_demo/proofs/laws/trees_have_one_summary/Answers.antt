use Rattle.nav_demo.proofs.OneSummary.{one_summary}
use Rattle.nav_demo.proofs.laws.trees_have_one_summary.Goals as goal

pub returns : goal.returns
returns c = one_summary
