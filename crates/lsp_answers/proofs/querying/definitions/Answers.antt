use Rattle.std.proofs.Common.{refl}
use Rattle.lsp_answers.proofs.querying.definitions.Goals as goal

pub returns-in-Ok : goal.returns-in-Ok
returns-in-Ok c _ = (c.in-Ok.answer, refl, c.in-Ok.ensures (λ e. cc))
