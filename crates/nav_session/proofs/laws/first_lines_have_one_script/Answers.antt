use Rattle.nav_session.proofs.OneScript.{one_beginning}
use Rattle.nav_session.proofs.laws.first_lines_have_one_script.Goals as goal

pub returns : goal.returns
returns c = one_beginning c.queries_have_one_reply.ensures c.callers_have_one_reply.ensures
