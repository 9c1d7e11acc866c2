use Rattle.std.proofs.Common.{subst}
use Rattle.lsp_texts.specs.Texts.{texts_in}
use Rattle.lsp_answers.proofs.Asked.{IsFound, tells_union, tells_crowded, no_other}
use Rattle.lsp_answers.proofs.referring.tell_found.Goals as goal

pub returns-in-Ok : goal.returns-in-Ok
returns-in-Ok c files h =
    tells_union files c.args.project.now.root.now (texts_in c.args.project.now.texts.now) c.args.targets c.args.declaration c.tell_all.result
    (c.tell_all.ensures files (subst (IsFound files c.args.targets) c.in-Ok.is h (λ e. cc)))

pub returns-in-Err : goal.returns-in-Err
returns-in-Err c files h =
    tells_crowded files c.args.project.now.root.now (texts_in c.args.project.now.texts.now) c.args.targets c.args.declaration c.in-Err.fault c.outcome_of_fault.result
    (λ definite. subst (IsFound files c.args.targets) c.in-Err.is h (no_other c.in-Err.fault definite)) c.outcome_of_fault.ensures.told c.outcome_of_fault.ensures.definite
