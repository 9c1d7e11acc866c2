use Rattle.nav_answers.proofs.OneReply.{one_reply}
use Rattle.nav_answers.proofs.laws.queries_have_one_reply.Goals as goal

pub returns : goal.returns
returns c = one_reply
