use Rattle.nav_session.proofs.OneScript.{one_script}
use Rattle.nav_session.proofs.laws.lines_have_one_script.Goals as goal

pub returns : goal.returns
returns c = one_script c.queries_have_one_reply.ensures c.callers_have_one_reply.ensures
