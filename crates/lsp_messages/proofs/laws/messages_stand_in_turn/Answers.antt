use Rattle.lsp_messages.proofs.Behind.{stands_behind}
use Rattle.lsp_messages.proofs.laws.messages_stand_in_turn.Goals as goal

pub returns : goal.returns
returns c done input rest n f go = stands_behind done input rest n f go
