use Rattle.nav_serve.proofs.OneOutput.{one_output}
use Rattle.nav_serve.proofs.laws.commands_have_one_output.Goals as goal

pub returns : goal.returns
returns c = one_output c.lines_have_one_script.ensures c.messages_have_one_script.ensures c.trees_have_one_summary.ensures
