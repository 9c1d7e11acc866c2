use Rattle.nav_poll.proofs.Scripts.{begins_script}
use Rattle.nav_poll.proofs.laws.polled_sessions_keep_to_script.Goals as goal

pub returns : goal.returns
returns c = begins_script c.first_lines_have_one_script.ensures
