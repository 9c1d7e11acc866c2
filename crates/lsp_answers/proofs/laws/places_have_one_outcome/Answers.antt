use Rattle.lsp_answers.proofs.OneOutcome.{one_outcome}
use Rattle.lsp_answers.proofs.laws.places_have_one_outcome.Goals as goal

pub returns : goal.returns
returns c = one_outcome
