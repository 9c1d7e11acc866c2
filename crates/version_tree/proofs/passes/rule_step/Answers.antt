use Rattle.std.proofs.Common.{◌∙◌}
use Rattle.version_tree.proofs.Rules.{undeny-absent}
use Rattle.version_tree.proofs.passes.rule_step.Goals as goal

pub returns-in_ok-copy-in-Err-undeny-2-clause-rules :
    goal.returns-in_ok-copy-in-Err-undeny-2-clause-rules
returns-in_ok-copy-in-Err-undeny-2-clause-rules c =
    c.in-Err-undeny.ensures.err ∙ undeny-absent c.args.rules.now c.args.edit.now _ _ _ _ c.in-Undeny.is c.as_str-in-Undeny.ensures.value c.as_str-in-Undeny-2.ensures.value c.in-Err-undeny.ensures.answer.1
