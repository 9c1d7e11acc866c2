use Rattle.nav_lsp.proofs.OneScript.{one_script}
use Rattle.nav_lsp.proofs.laws.messages_have_one_script.Goals as goal

pub returns : goal.returns
returns c = one_script
