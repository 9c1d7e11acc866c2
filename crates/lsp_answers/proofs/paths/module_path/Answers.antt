use Rattle.lsp_answers.proofs.Modules.{in_utf8, not_utf8}
use Rattle.lsp_answers.proofs.paths.module_path.Goals as goal

pub returns-in-Ok : goal.returns-in-Ok
returns-in-Ok c = in_utf8 c.if_module.result c.args.path.now c.in-Ok.text.now c.in-Ok.ensures.cases.0 c.in-Ok.ensures.cases.1 c.if_module.ensures

pub returns-in-Err : goal.returns-in-Err
returns-in-Err c = not_utf8 c.args.path.now c.in-Err.ensures.cases.0
