use Rattle.nav_answers.proofs.OneReply.{one_callers}
use Rattle.nav_answers.proofs.laws.callers_have_one_reply.Goals as goal

pub returns : goal.returns
returns c = one_callers
